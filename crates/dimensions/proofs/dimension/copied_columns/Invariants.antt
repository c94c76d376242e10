use Rattle.std.proofs.Common.{◌≡◌, map, take}
use Rattle.dimensions.specs.Columns.{unranked}
use Rattle.dimensions.proofs.dimension.copied_columns.Given as goal

abbrev pub invariant-loop-column : goal.invariant-loop-column
invariant-loop-column l = l.copies.items ≡ map unranked (take l.column-index l.columns)
