use Rattle.std.proofs.Common.{length}
use Rattle.lattice.proofs.needed.+with_conditions.Given as goal

abbrev pub decreases-with_conditions : goal.decreases-with_conditions
decreases-with_conditions l = length l.conditions.now
