use Rattle.std.proofs.Common.{length}
use Rattle.partial_reports.proofs.finishing.+push_values.Given as goal

abbrev pub decreases-push_values : goal.decreases-push_values
decreases-push_values l = length l.aggs.now
