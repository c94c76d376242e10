use Rattle.ssb_reports.proofs.Beginnings.{Writes-flushed}
use Rattle.ssb_reports.proofs.report.write_report.Goals as goal

pub returns : goal.returns
returns g c = Writes-flushed _ _ _ _ _ c.in_ok-write_text.ensures c.flush.ensures.bytes c.flush.ensures.fault
