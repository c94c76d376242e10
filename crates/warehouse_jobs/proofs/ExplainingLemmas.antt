-- How an explanation ends.
use Rattle.std.proofs.Common.{◌≡◌, inl, inr, ℕ, List, Option, Result, Ok, Err}
use Rattle.std.proofs.KnownBytes.{Keeps-refl}
use Rattle.cube_model.specs.declared.fault.Fault.{Fault}
use Rattle.mode_queries.specs.declared.query.ModeQuery.{ModeQuery}
use Rattle.planner.specs.declared.price.Priced.{Priced}
use Rattle.planned_queries.specs.ModesPlanned.{ArePlansByModes}
use Rattle.ssb_reports.specs.Writing.{Writes}
use Rattle.warehouse_root.specs.Layouts.{has_modes}
use Rattle.warehouse_objects.specs.Warehouse.{Warehouse}
use Rattle.warehouse.specs.ByModes.{IsAskedByModes, RefusesByModes}
use Rattle.warehouse_jobs.specs.Explaining.{Explains}
use Rattle.warehouse_jobs.specs.PlanLines.{plans_text}

-- the query was refused
pub explain-refused : (w : Warehouse) (count : ℕ) (asked : ModeQuery) (before : Option (List ℕ)) (fault : Fault)
    (result : Result Unit Fault)
    → RefusesByModes w count asked fault → (other : Fault) × (result ≡ Err other) × (other ≡ fault)
    → Explains w count asked before before result
explain-refused w count asked before fault result refused stop = rw (stop.1, stop.2) (inr (Keeps-refl before, refused))

-- the plans were found, and their lines written
pub explain-written : (w : Warehouse) (count : ℕ) (asked : ModeQuery) (before after : Option (List ℕ))
    (plans : List Priced) (result : Result Unit Fault)
    → IsAskedByModes w count asked × ArePlansByModes w count asked plans
    → Writes before after result (plans_text (has_modes w.layout) count plans)
    → Explains w count asked before after result
explain-written w count asked before after plans (Ok done) found written = (found.0, plans, found.1, written)
explain-written w count asked before after plans (Err fault) found written =
    inl (written.0, found.0, plans, found.1, written.1)
