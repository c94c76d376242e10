-- What holds of queries that may look at ship modes. Each is proved as the contract of a function of its name.
use Rattle.std.specs.Prelude.{◌≡◌, ℕ, true, Some, None, List, []}
use Rattle.cube_model.specs.declared.query.Query.{Query}
use Rattle.cube_model.specs.declared.rows.DimRows.{DimRows}
use Rattle.cube_model.specs.declared.rows.LineOrder.{LineOrder}
use Rattle.cube_model.specs.Answers.{answer}
use Rattle.mode_queries.specs.Answers.{moded_answer}
use Rattle.mode_queries.specs.Joining.{JoinLines, have_modes, passing}
use Rattle.mode_queries.specs.Proper.{IsProperByModes}
use Rattle.mode_queries.specs.declared.query.ModeQuery.{ModeQuery}

-- a query, as one that does not look at ship modes
abbrev pub without_modes : Query → ModeQuery
without_modes query = record { query = query; place = None; conditions = [] }

-- it has the same answer
abbrev pub AnswersWithoutShipModes : Type 0
AnswersWithoutShipModes = (query : Query) (dimensions : DimRows) (rows : List LineOrder)
    → moded_answer (without_modes query) dimensions rows ≡ answer query dimensions rows

-- the answer to a query with a column of ship modes is made of answers to the query without it
abbrev pub AnswersJoin : Type 0
AnswersJoin = (dimensions : DimRows) (asked : ModeQuery) (place : ℕ) (rows : List LineOrder) (modes : List (List ℕ))
    → IsProperByModes asked → asked.place ≡ Some place → have_modes modes (passing asked.conditions rows) ≡ true
    → JoinLines dimensions asked place rows modes
