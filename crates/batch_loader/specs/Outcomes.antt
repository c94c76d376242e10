-- One step after another, each of which may be refused.
use Rattle.std.specs.Prelude.{Option, Some, None, Result, Ok, Err}
use Rattle.cube_model.specs.declared.fault.Fault.{Fault}

-- a next step, unless the first was refused
abbrev pub and_then : {A B : Type 0} → Result A Fault → (A → Result B Fault) → Result B Fault
and_then (Ok value) next = next value
and_then (Err fault) next = Err fault

-- an outcome, unless there is a cause to refuse it
abbrev pub unless : {A : Type 0} → Option Fault → Result A Fault → Result A Fault
unless None outcome = outcome
unless (Some cause) outcome = Err cause
