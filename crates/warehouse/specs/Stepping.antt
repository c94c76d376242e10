-- What a step of a running query comes to.
use Rattle.std.specs.Prelude.{◌≡◌, ◌⊎◌, ℕ, ◌+◌, Option, Some, None}
use Rattle.cube_model.specs.declared.fault.Fault.{Fault}
use Rattle.cube_model.specs.declared.fault.Fault.TheVariants.{Device, Memory}
use Rattle.planned_queries.specs.Stepping.{IsRunning, Started, started_answer, stepped}
use Rattle.warehouse.specs.declared.stepping.Stepped.{Stepped}
use Rattle.warehouse.specs.declared.stepping.Stepped.TheVariants.{More, Done, Refused}

-- why a step is refused, if it is
abbrev pub refused_by : Stepped → Option Fault
refused_by (More running) = None
refused_by (Done found) = None
refused_by (Refused running fault) = Some fault

-- a step of a query that was started: one step fewer is left, or the answer comes after the last one, or it is as
-- before
abbrev pub StepsTo : Started → Stepped → Type 0
StepsTo s (More running) = (left : ℕ) × (s.left ≡ left + 1) × IsRunning running (stepped s left)
StepsTo s (Done found) = (s.left ≡ 0) × (found ≡ started_answer s)
StepsTo s (Refused running fault) = IsRunning running s × ((fault ≡ Memory) ⊎ (fault ≡ Device))
