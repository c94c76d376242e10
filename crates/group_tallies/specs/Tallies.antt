-- Tallies: what is kept of the numbers of a group, from which each aggregate can be taken. Our own.
use Rattle.std.specs.Prelude.{◌+◌, ◌==◌, cond, ℤ, pos, ◌+ℤ◌, List, [], ◌∷◌, map, length, Option, Some, None}
use Rattle.std.specs.Int.{int_min, int_max}
use Rattle.group_tallies.specs.declared.tally.Tally.{Tally}
use Rattle.cube_model.specs.declared.answer.Value.{Value}
use Rattle.cube_model.specs.declared.answer.Value.TheVariants.{Whole, Ratio}
use Rattle.cube_model.specs.declared.measure.Agg.{Agg}
use Rattle.cube_model.specs.declared.measure.Agg.TheVariants.{Count, Sum, Min, Max, Avg}
use Rattle.cube_model.specs.declared.rows.LineOrder.{LineOrder}
use Rattle.cube_model.specs.Aggregates.{total, least, greatest}
use Rattle.cube_model.specs.Fractions.{fraction_of}
use Rattle.cube_model.specs.Measures.{measure_of}

-- the count of some numbers with their sum, the least and the greatest
abbrev pub tally_of : List ℤ → Tally
tally_of numbers =
    record { count = length numbers; sum = total numbers; least = least numbers; greatest = greatest numbers }

-- a tally with one number more
abbrev pub tally_with : Tally → ℤ → Tally
tally_with tally number = record {
  count = tally.count + 1;
  sum = tally.sum +ℤ number;
  least = int_min tally.least number;
  greatest = int_max tally.greatest number;
}

-- two tallies as one, where either may be that of none
abbrev pub merged_tally : Tally → Tally → Tally
merged_tally left right = cond (left.count == 0) right (cond (right.count == 0) left (record {
  count = left.count + right.count;
  sum = left.sum +ℤ right.sum;
  least = int_min left.least right.least;
  greatest = int_max left.greatest right.greatest;
}))

-- what an aggregate is taken of: its measure, and nothing for a count
abbrev pub aggregated : Agg → LineOrder → ℤ
aggregated Count row = pos 0
aggregated (Sum measure) row = measure_of measure row
aggregated (Min measure) row = measure_of measure row
aggregated (Max measure) row = measure_of measure row
aggregated (Avg measure) row = measure_of measure row

-- the tallies over fact rows, one for each aggregate
abbrev pub tallies_of : List Agg → List LineOrder → List Tally
tallies_of aggs rows = map (λ agg. tally_of (map (aggregated agg) rows)) aggs

-- what an aggregate takes of its tally
abbrev pub value_of : Agg → Tally → Value
value_of Count tally = Whole (pos tally.count)
value_of (Sum measure) tally = Whole tally.sum
value_of (Min measure) tally = Whole tally.least
value_of (Max measure) tally = Whole tally.greatest
value_of (Avg measure) tally = Ratio (fraction_of tally.sum tally.count)

-- the tallies over fact rows, where there are any
abbrev pub tallies_if_any : List Agg → List LineOrder → Option (List Tally)
tallies_if_any aggs [] = None
tallies_if_any aggs (row ∷ rows) = Some (tallies_of aggs (row ∷ rows))

-- tallies, one for each aggregate, with one fact row more
abbrev pub tallies_with : List Agg → List Tally → LineOrder → List Tally
tallies_with [] tallies row = []
tallies_with (agg ∷ aggs) [] row = []
tallies_with (agg ∷ aggs) (tally ∷ tallies) row = tally_with tally (aggregated agg row) ∷ tallies_with aggs tallies row

-- the same, where there may be none yet
abbrev pub tallies_after : List Agg → Option (List Tally) → LineOrder → List Tally
tallies_after aggs None row = tallies_of aggs (row ∷ [])
tallies_after aggs (Some tallies) row = tallies_with aggs tallies row

-- the values of a line
abbrev pub values_of : List Agg → List Tally → List Value
values_of [] tallies = []
values_of (agg ∷ aggs) [] = []
values_of (agg ∷ aggs) (tally ∷ tallies) = value_of agg tally ∷ values_of aggs tallies
