use Rattle.std.proofs.Common.{length}
use Rattle.lattice.proofs.query.+decides_all.Given as goal

abbrev pub decreases-decides_all : goal.decreases-decides_all
decreases-decides_all l = length l.conditions.now
