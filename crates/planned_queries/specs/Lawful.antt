-- What holds of queries that do not look at ship modes, over a warehouse. Each is proved as the contract of a function
-- of its name.
use Rattle.std.specs.Prelude.{◌↔◌, ℕ, List}
use Rattle.cube_model.specs.declared.query.Query.{Query}
use Rattle.mode_queries.specs.Lawful.{without_modes}
use Rattle.planner.specs.declared.price.Priced.{Priced}
use Rattle.planned_queries.specs.Planned.{ArePlansOf}
use Rattle.warehouse_objects.specs.Warehouse.{Warehouse}
use Rattle.planned_queries.specs.ModesPlanned.{ArePlansByModes}

-- such a query has the plans that it has as a query of the dimensions alone
abbrev pub PlannedWithoutShipModes : Type 0
PlannedWithoutShipModes = (w : Warehouse) (as_of : ℕ) (query : Query) (plans : List Priced)
    → ArePlansByModes w as_of (without_modes query) plans ↔ ArePlansOf w as_of query plans
