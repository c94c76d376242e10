use Rattle.std.proofs.Common.{◌-◌, length}
use Rattle.ssb_reports.proofs.report.+write_fields.Given as goal

abbrev pub decreases-write_fields : goal.decreases-write_fields
decreases-write_fields g l = length (g.F.Fields.texts l.fields.now) - l.place
