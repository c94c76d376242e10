use Rattle.std.proofs.Common.{length}
use Rattle.report_formats.proofs.escapes.+write_escaped.Given as goal

abbrev pub decreases-write_escaped : goal.decreases-write_escaped
decreases-write_escaped g l = length l.text.now
