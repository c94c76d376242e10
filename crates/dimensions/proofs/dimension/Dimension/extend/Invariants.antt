use Rattle.std.proofs.Common.{◌+◌, ◌++◌, List, map, length}
use Rattle.dimensions.specs.TextRows.{TextRow}
use Rattle.dimensions.specs.Dimensions.{HoldsRows}
use Rattle.dimensions.proofs.DimensionLemmas.{SoFar}
use Rattle.dimensions.proofs.dimension.Dimension.extend.Given as goal

abbrev pub invariant-loop-row : goal.invariant-loop-row
invariant-loop-row g l = (old : List TextRow) → HoldsRows l.axis old l.fn.self
    → SoFar l.axis (old ++ map g.R.DimensionRow.shown l.rows) (length old + l.row-index) l.self
