use Rattle.std.specs.Prelude.{◌≡◌, ◌≤◌, ◌<◌, Bool, true, false, List, [], ◌∷◌, length, IfSome, IsSomeAnd, slice_get}
use Rattle.std.specs.List.{AllByRecursion, Contains}
use Rattle.cube_model.specs.declared.attr.Attr.{Attr}
use Rattle.cube_model.specs.declared.measure.Agg.{Agg}
use Rattle.cube_model.specs.declared.measure.Agg.TheVariants.{Count, Sum, Min, Max, Avg}
use Rattle.cube_model.specs.declared.query.Cond.{Cond}
use Rattle.cube_model.specs.declared.query.Cond.TheVariants.{OneOf, Between, Quantity, Discount}
use Rattle.cube_model.specs.declared.query.Kind.TheVariants.{Plain}
use Rattle.cube_model.specs.declared.query.Order.{Order}
use Rattle.cube_model.specs.declared.query.Query.{Query}
use Rattle.cube_model.specs.Limits.{most_aggregates, most_columns, most_conditions, most_listed_texts}

-- no column occurs twice
abbrev pub IsFreeOfRepeats : List Attr → Type 0
IsFreeOfRepeats [] = Unit {0}
IsFreeOfRepeats (column ∷ columns) = (Contains columns column → ⊥) × IsFreeOfRepeats columns

-- a list of texts has at least one, and not too many
abbrev pub IsFitCondition : Cond → Type 0
IsFitCondition (OneOf attr texts) = (1 ≤ length texts) × (length texts ≤ most_listed_texts)
IsFitCondition (Between attr low high) = Unit {0}
IsFitCondition (Quantity low high) = Unit {0}
IsFitCondition (Discount low high) = Unit {0}

abbrev pub is_average : Agg → Bool
is_average Count = false
is_average (Sum measure) = false
is_average (Min measure) = false
is_average (Max measure) = false
is_average (Avg measure) = true

-- an order names a column and an aggregate that is no average, of a plain query
pub record IsFitOrder (query : Query) (order : Order) : Type 0 where
  pub plain : query.kind ≡ Plain
  pub column : order.column < length query.columns
  pub aggregate : IsSomeAnd (slice_get query.aggregates order.aggregate) (λ agg. is_average agg ≡ false)

-- a query that may be asked
pub record IsProper (query : Query) : Type 0 where
  pub few_columns : length query.columns ≤ most_columns
  pub distinct_columns : IsFreeOfRepeats query.columns
  pub some_aggregate : 1 ≤ length query.aggregates
  pub few_aggregates : length query.aggregates ≤ most_aggregates
  pub few_conditions : length query.conditions ≤ most_conditions
  pub fit_conditions : AllByRecursion IsFitCondition query.conditions
  pub fit_order : IfSome query.order (IsFitOrder query)
