use Rattle.std.proofs.Common.{◌≡◌}
use Rattle.dimensions.specs.Dimensions.{columns_from}
use Rattle.dimensions.proofs.dimension.columns_of.Given as goal

abbrev pub invariant-loop-column : goal.invariant-loop-column
invariant-loop-column l = l.columns.items ≡ columns_from l.axis 0 l.yielded
