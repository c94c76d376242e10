-- What holds of queries that do not look at ship modes, over the first batches of a warehouse. Each is proved as the
-- contract of a function of its name.
use Rattle.std.specs.Prelude.{◌≡◌, ◌↔◌, ℕ, List}
use Rattle.cube_model.specs.declared.query.Query.{Query}
use Rattle.cube_model.specs.declared.rows.DimRows.{DimRows}
use Rattle.cube_model.specs.declared.rows.LineOrder.{LineOrder}
use Rattle.cube_model.specs.Answers.{answer_as_of}
use Rattle.planned_queries.specs.ModeAnswers.{moded_answer_as_of}
use Rattle.mode_queries.specs.Lawful.{without_modes}
use Rattle.warehouse.specs.ByModes.{IsAskedByModes}
use Rattle.warehouse.specs.Session.{IsAsked}
use Rattle.warehouse_objects.specs.Warehouse.{Warehouse}

-- such a query is asked exactly where it is as a query of the dimensions alone
abbrev pub AskedWithoutShipModes : Type 0
AskedWithoutShipModes = (w : Warehouse) (as_of : ℕ) (query : Query)
    → IsAskedByModes w as_of (without_modes query) ↔ IsAsked w as_of query

-- and it has the same answer
abbrev pub AnsweredWithoutShipModes : Type 0
AnsweredWithoutShipModes = (query : Query) (as_of : ℕ) (dimensions : DimRows) (batches : List (List LineOrder))
    → moded_answer_as_of (without_modes query) as_of dimensions batches ≡ answer_as_of query as_of dimensions batches
