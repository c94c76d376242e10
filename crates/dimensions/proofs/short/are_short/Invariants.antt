use Rattle.std.proofs.Common.{map, take}
use Rattle.dimensions.specs.ShortTexts.{AreShortRows}
use Rattle.dimensions.proofs.short.are_short.Given as goal

abbrev pub invariant-loop-row : goal.invariant-loop-row
invariant-loop-row g l = AreShortRows (take l.row-index (map g.R.DimensionRow.shown l.rows))
