-- The status that a program ends with. Our own.
use Rattle.std.specs.Prelude.{ℕ, false, true, Bool, Result, Ok, Err}
use Rattle.cube_model.specs.declared.fault.Fault.{Fault}

-- 0 where it was done and the answer is yes, else 1
abbrev pub status_of : Result Bool Fault → ℕ
status_of (Ok true) = 0
status_of (Ok false) = 1
status_of (Err fault) = 1
