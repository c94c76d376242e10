use Rattle.std.proofs.Common.{length}
use Rattle.group_numbers.proofs.digits.+group_count.Given as goal

abbrev pub decreases-group_count : goal.decreases-group_count
decreases-group_count l = length l.columns.now
