-- What callers need of queries that do not look at ship modes, and of joined answers.
use Rattle.std.proofs.Common.{arith}
use Rattle.cube_model.specs.declared.query.Query.{Query}
use Rattle.cube_model.specs.Proper.{IsProper}
use Rattle.mode_queries.specs.Lawful.{without_modes}
use Rattle.mode_queries.specs.Proper.{IsProperByModes}
pub use Rattle.mode_queries.proofs.Join.{answers_join, any_ascending}
pub use Rattle.mode_queries.proofs.Without.{answers_without_column, answers_without_ship_modes}

-- a query of the dimensions alone may be asked as it is
pub proper_without : (query : Query) → IsProper query → IsProperByModes (without_modes query)
proper_without query proper = record {
  without = proper;
  within = tt;
  few_columns = tt;
  by_key = tt;
  few_conditions = omega (arith, proper.few_conditions);
  fit_conditions = tt;
}
