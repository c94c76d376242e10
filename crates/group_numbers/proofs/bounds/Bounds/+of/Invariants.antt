use Rattle.std.proofs.Common.{length}
use Rattle.group_numbers.proofs.bounds.Bounds.+of.Given as goal

abbrev pub decreases-of : goal.decreases-of
decreases-of l = length l.conditions.now
