-- What is written of the plans of a query. Our own.
use Rattle.std.specs.Prelude.{◌≡◌, ◌⊎◌, ℕ, List, Option, Result, Ok, Err}
use Rattle.std.specs.Io.KnownBytes.{Appends, Keeps}
use Rattle.cube_model.specs.declared.fault.Fault.{Fault}
use Rattle.cube_model.specs.declared.fault.Fault.TheVariants.{Output}
use Rattle.mode_queries.specs.declared.query.ModeQuery.{ModeQuery}
use Rattle.planner.specs.declared.price.Priced.{Priced}
use Rattle.planned_queries.specs.ModesPlanned.{ArePlansByModes}
use Rattle.ssb_reports.specs.Writing.{AppendsBeginning}
use Rattle.warehouse_root.specs.Layouts.{has_modes}
use Rattle.warehouse_objects.specs.Warehouse.{Warehouse}
use Rattle.warehouse.specs.ByModes.{IsAskedByModes, RefusesByModes}
use Rattle.warehouse_jobs.specs.PlanLines.{plans_text}

-- The plans of a query over the first batches were written, the one that is taken first. Or the writer failed, after a
-- beginning of them. Or the query is refused, and nothing was written
abbrev pub Explains : {A : Type 0} → Warehouse → ℕ → ModeQuery → (before after : Option (List ℕ)) → Result A Fault
    → Type 0
Explains w count asked before after (Ok done) =
    IsAskedByModes w count asked × (plans : List Priced) × ArePlansByModes w count asked plans
    × Appends before after (plans_text (has_modes w.layout) count plans)
Explains w count asked before after (Err fault) =
    ((fault ≡ Output) × IsAskedByModes w count asked × (plans : List Priced) × ArePlansByModes w count asked plans
    × AppendsBeginning before after (plans_text (has_modes w.layout) count plans))
    ⊎ (Keeps before after × RefusesByModes w count asked fault)
