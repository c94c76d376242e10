use Rattle.std.specs.Prelude.{◌≡◌, ◌+◌, ◌≤◌, None, IfSome, length}
use Rattle.std.specs.List.{AllByRecursion}
use Rattle.cube_model.specs.Limits.{most_columns, most_conditions, most_listed_texts}
use Rattle.cube_model.specs.Proper.{IsProper}
use Rattle.mode_queries.specs.declared.query.ModeCond.{ModeCond}
use Rattle.mode_queries.specs.declared.query.ModeCond.TheVariants.{OneOf, Between}
use Rattle.mode_queries.specs.declared.query.ModeQuery.{ModeQuery}

-- a list of texts has at least one, and not too many
abbrev pub IsFitModeCondition : ModeCond → Type 0
IsFitModeCondition (OneOf texts) = (1 ≤ length texts) × (length texts ≤ most_listed_texts)
IsFitModeCondition (Between low high) = Unit {0}

-- a query that may be asked: without ship modes it may be, and with them it has not too many columns and conditions.
-- Its order is that of the keys where a column is the ship mode
pub record IsProperByModes (asked : ModeQuery) : Type 0 where
  pub without : IsProper asked.query
  pub within : IfSome asked.place (λ place. place ≤ length asked.query.columns)
  pub few_columns : IfSome asked.place (λ place. length asked.query.columns + 1 ≤ most_columns)
  pub by_key : IfSome asked.place (λ place. asked.query.order ≡ None)
  pub few_conditions : length asked.query.conditions + length asked.conditions ≤ most_conditions
  pub fit_conditions : AllByRecursion IsFitModeCondition asked.conditions
