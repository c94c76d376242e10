-- Lines of partial answers while they are merged: their numbers have 128 bits. Our own.
use Rattle.std.specs.Prelude.{◌≡◌, ℤ, FitsSigned, Option, Some, None, List, [], ◌∷◌, map}
use Rattle.std.specs.declared.cmp.Ordering.{Ordering}
use Rattle.std.specs.declared.cmp.Ordering.TheVariants.{Less, Greater}
use Rattle.std.specs.Int.{w64}
use Rattle.cube_model.specs.declared.answer.Line.{Line}
use Rattle.cube_model.specs.declared.answer.Value.TheVariants.{Whole}
use Rattle.cube_model.specs.declared.fault.Fault.{Fault}
use Rattle.cube_model.specs.declared.fault.Fault.TheVariants.{SumRange, TooManyRows}
use Rattle.cube_model.specs.declared.measure.Agg.{Agg}
use Rattle.cube_model.specs.declared.measure.Agg.TheVariants.{Count, Sum, Min, Max, Avg}
use Rattle.cube_model.specs.Ascending.{IsAscending}
use Rattle.cube_model.specs.Orders.{answer_cmp}
use Rattle.partial_reports.specs.declared.wide.WideLine.{WideLine}
use Rattle.cube_model.specs.Keys.{key_cmp}
use Rattle.partial_reports.specs.Merges.{merged_line, merged_lines}

abbrev pub narrow_line : WideLine → Line
narrow_line wide = record { key = wide.key; values = map Whole wide.numbers }

abbrev pub narrow_lines : List WideLine → List Line
narrow_lines lines = map narrow_line lines

-- lines are in the order of their keys
abbrev pub Rise : List WideLine → Type 0
Rise lines = IsAscending (answer_cmp None) (narrow_lines lines)

-- the first line of the merge of two lists, and what is left of both
pub record IsMergeStep (aggs : List Agg) (ones others : List WideLine) (line : WideLine)
    (ones_left others_left : List WideLine) : Type 0 where
  pub merges : merged_lines aggs (narrow_lines ones) (narrow_lines others) ≡ narrow_line line
      ∷ merged_lines aggs (narrow_lines ones_left) (narrow_lines others_left)
  pub ones_rise : Rise ones_left
  pub others_rise : Rise others_left

-- how the first lines of two lists compare, by their keys: what is missing comes last
abbrev pub front_cmp : List WideLine → List WideLine → Ordering
front_cmp [] others = Greater
front_cmp (one ∷ ones) [] = Less
front_cmp (one ∷ ones) (other ∷ others) = key_cmp one.key other.key

-- a line is the merge of two, where both are there
abbrev pub IsMergeOfBoth : List Agg → Option WideLine → Option WideLine → Option WideLine → Type 0
IsMergeOfBoth aggs (Some one) (Some other) (Some line) =
    narrow_line line ≡ merged_line aggs (narrow_line one) (narrow_line other)
IsMergeOfBoth aggs (Some one) (Some other) None = ⊥
IsMergeOfBoth aggs (Some one) None line = line ≡ None
IsMergeOfBoth aggs None other line = line ≡ None

-- what is wrong where a number of an aggregate passes 64 bits
abbrev pub range_fault : Agg → Fault
range_fault Count = TooManyRows
range_fault (Sum measure) = SumRange measure
range_fault (Min measure) = SumRange measure
range_fault (Max measure) = SumRange measure
range_fault (Avg measure) = SumRange measure

abbrev pub IsRangeFault : Agg → ℤ → Fault → Type 0
IsRangeFault agg number fault = (fault ≡ range_fault agg) × (FitsSigned w64 number → ⊥)
