use Rattle.std.proofs.Common.{length}
use Rattle.partial_reports.proofs.merging.+push_merged.Given as goal

abbrev pub decreases-push_merged : goal.decreases-push_merged
decreases-push_merged l = length l.aggs.now
