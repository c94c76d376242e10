-- What refusals speak of. Our own.
use Rattle.std.specs.Prelude.{Bool, true, false}
use Rattle.cube_model.specs.declared.fault.Fault.{Fault}
use Rattle.cube_model.specs.declared.fault.Fault.TheVariants.{Device, Failed}

-- a refusal that says that the device failed, now or before
abbrev pub is_of_device : Fault → Bool
is_of_device Device = true
is_of_device Failed = true
is_of_device fault = false
