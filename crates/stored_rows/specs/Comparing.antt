-- What a read ends with that says nothing of what was read. Our own.
use Rattle.std.specs.Prelude.{Bool, true, false}
use Rattle.cube_model.specs.declared.fault.Fault.{Fault}
use Rattle.cube_model.specs.declared.fault.Fault.TheVariants.{Device, Memory}

abbrev pub ends_reading : Fault → Bool
ends_reading Memory = true
ends_reading Device = true
ends_reading _ = false
