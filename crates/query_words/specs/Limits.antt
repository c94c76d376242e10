-- The limits of a query in words. Our own.
use Rattle.std.specs.Prelude.{◌≡◌, ◌≤◌, ◌<◌, ◌⊎◌, ℕ, List, [], ◌∷◌, ◌++◌, length, Contains}
use Rattle.std.specs.Borrow.{Bor}
use Rattle.cube_model.specs.Limits.{most_asked_aggregates, most_columns, most_conditions}
use Rattle.query_words.specs.declared.cube_parts.CubeParts.{CubeParts}
use Rattle.query_words.specs.declared.known.Column.{Column}
use Rattle.query_words.specs.declared.refused.Counted.{Counted}
use Rattle.query_words.specs.declared.refused.Counted.TheVariants.{Columns, Aggregates, Conditions}
use Rattle.query_words.specs.declared.refused.Mistake.TheVariants.{Twice}
use Rattle.query_words.specs.declared.refused.Refused.{Refused}
use Rattle.query_words.specs.declared.refused.Refused.TheVariants.{TooMany, Wrong}
use Rattle.query_words.specs.Known.{column_name}

-- there are more than so many, and that is said
abbrev pub IsTooMany : Counted → ℕ → ℕ → Refused → Type 0
IsTooMany counted count most refused = (refused ≡ TooMany counted count most) × (most < count)

-- no value occurs twice
abbrev pub AreDistinct : {A : Type 0} → List A → Type 0
AreDistinct {A} [] = Unit {0}
AreDistinct {A} (value ∷ values) = (Contains values value → ⊥) × AreDistinct values

-- a value occurs, and occurs before
abbrev pub OccursTwice : {A : Type 0} → List A → A → Type 0
OccursTwice {A} values value = (front : List A) × (rest : List A) × (values ≡ front ++ value ∷ rest)
    × Contains front value

-- one of some names occurs twice, and that is said
abbrev pub IsTwice : List (List ℕ) → Refused → Type 0
IsTwice names refused = (word : Bor (List ℕ)) × (refused ≡ Wrong word Twice) × OccursTwice names word.now

pub record IsWithinLimits (parts : CubeParts) : Type 0 where
  pub few_aggregates : length parts.aggregates ≤ most_asked_aggregates
  pub few_conditions : length parts.conditions ≤ most_conditions
  pub few_columns : length parts.columns ≤ most_columns
  pub distinct_columns : AreDistinct parts.columns

abbrev pub IsLimitMistake : CubeParts → Refused → Type 0
IsLimitMistake parts refused = IsTooMany Aggregates (length parts.aggregates) most_asked_aggregates refused
    ⊎ IsTooMany Conditions (length parts.conditions) most_conditions refused
    ⊎ IsTooMany Columns (length parts.columns) most_columns refused
    ⊎ ((column : Column) × (word : Bor (List ℕ)) × (refused ≡ Wrong word Twice) × (word.now ≡ column_name column)
    × OccursTwice parts.columns column)
