use Rattle.std.proofs.Common.{length}
use Rattle.lattice.proofs.needed.+with_columns.Given as goal

abbrev pub decreases-with_columns : goal.decreases-with_columns
decreases-with_columns l = length l.columns.now
