use Rattle.std.proofs.Common.{◌≤◌, length, take}
use Rattle.std.specs.List.{AllByRecursion}
use Rattle.dimensions.proofs.short.is_short.Given as goal

abbrev pub invariant-loop-column : goal.invariant-loop-column
invariant-loop-column g l =
    AllByRecursion (λ text. length text ≤ 255) (take l.column (g.R.DimensionRow.shown l.row).texts)
