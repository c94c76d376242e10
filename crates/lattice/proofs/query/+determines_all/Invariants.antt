use Rattle.std.proofs.Common.{length}
use Rattle.lattice.proofs.query.+determines_all.Given as goal

abbrev pub decreases-determines_all : goal.decreases-determines_all
decreases-determines_all l = length l.columns.now
