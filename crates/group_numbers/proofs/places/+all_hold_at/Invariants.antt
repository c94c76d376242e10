use Rattle.std.proofs.Common.{length}
use Rattle.group_numbers.proofs.places.+all_hold_at.Given as goal

abbrev pub decreases-all_hold_at : goal.decreases-all_hold_at
decreases-all_hold_at l = length l.conditions.now
