-- What callers need of queries that do not look at ship modes.
use Rattle.std.proofs.Common.{ℕ, take}
use Rattle.cube_model.specs.declared.query.Query.{Query}
use Rattle.cube_model.specs.Admission.{all_rows}
use Rattle.mode_queries.specs.Lawful.{without_modes}
use Rattle.mode_queries.proofs.CallerLemmas.{answers_without_ship_modes, proper_without}
use Rattle.warehouse.specs.ByModes.{IsAskedByModes}
use Rattle.warehouse.specs.Session.{IsAsked}
use Rattle.warehouse_objects.specs.Warehouse.{Warehouse}
use Rattle.warehouse_jobs.specs.AnswersLawful.{AnsweredWithoutShipModes, AskedWithoutShipModes}

-- such a query is asked as it is as a query of the dimensions alone
pub asked_as_modes : (w : Warehouse) (as_of : ℕ) (query : Query) → IsAsked w as_of query
    → IsAskedByModes w as_of (without_modes query)
asked_as_modes w as_of query asked = record { proper = proper_without query asked.proper; there = asked.there }

pub asked_as_plain : (w : Warehouse) (as_of : ℕ) (query : Query) → IsAskedByModes w as_of (without_modes query)
    → IsAsked w as_of query
asked_as_plain w as_of query asked = record { proper = asked.proper.without; there = asked.there }

pub asked_without_ship_modes : AskedWithoutShipModes
asked_without_ship_modes w as_of query = (asked_as_plain w as_of query, asked_as_modes w as_of query)

-- and it has the same answer
pub answered_without_ship_modes : AnsweredWithoutShipModes
answered_without_ship_modes query as_of dimensions batches =
    answers_without_ship_modes query dimensions (all_rows (take as_of batches))
