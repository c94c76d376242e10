use Rattle.std.proofs.Common.{◌≡◌, ◌<◌, ℕ, length, slice_index}
use Rattle.dimensions.specs.TextRows.{text_in}
use Rattle.dimensions.specs.Columns.{HasCode}
use Rattle.dimensions.specs.Dimensions.{column_at}
use Rattle.dimensions.proofs.dimension.Dimension.number.Given as goal

abbrev pub invariant-loop-i : goal.invariant-loop-i
invariant-loop-i g l = (length l.codes ≡ 4)
    × ((k : ℕ) → k < l.i
    → HasCode (column_at l.self k).texts (text_in k (g.R.DimensionRow.shown l.row)) (slice_index l.codes k))
