-- The aggregates of Gray et al. 1997 that the warehouse answers: count, sum, least, greatest, average.
use Rattle.std.specs.Prelude.{ℤ, pos, ◌+ℤ◌, List, [], ◌∷◌, map, length}
use Rattle.std.specs.List.{fold}
use Rattle.std.specs.Int.{int_min, int_max}
use Rattle.cube_model.specs.declared.answer.Value.{Value}
use Rattle.cube_model.specs.declared.answer.Value.TheVariants.{Whole, Ratio}
use Rattle.cube_model.specs.declared.measure.Agg.{Agg}
use Rattle.cube_model.specs.declared.measure.Agg.TheVariants.{Count, Sum, Min, Max, Avg}
use Rattle.cube_model.specs.declared.rows.LineOrder.{LineOrder}
use Rattle.cube_model.specs.Fractions.{fraction_of}
use Rattle.cube_model.specs.Measures.{measure_of}

-- whole numbers added up
abbrev pub total : List ℤ → ℤ
total numbers = fold (λ so_far number. so_far +ℤ number) (pos 0) numbers

-- the least and the greatest of some numbers (0 of none)
abbrev pub least : List ℤ → ℤ
least [] = pos 0
least (number ∷ numbers) = fold int_min number numbers

abbrev pub greatest : List ℤ → ℤ
greatest [] = pos 0
greatest (number ∷ numbers) = fold int_max number numbers

-- an aggregate over fact rows
abbrev pub aggregate : Agg → List LineOrder → Value
aggregate Count rows = Whole (pos (length rows))
aggregate (Sum measure) rows = Whole (total (map (measure_of measure) rows))
aggregate (Min measure) rows = Whole (least (map (measure_of measure) rows))
aggregate (Max measure) rows = Whole (greatest (map (measure_of measure) rows))
aggregate (Avg measure) rows = Ratio (fraction_of (total (map (measure_of measure) rows)) (length rows))
