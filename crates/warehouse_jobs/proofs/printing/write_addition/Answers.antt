use Rattle.ssb_reports.proofs.Beginnings.{Writes-flushed}
use Rattle.warehouse_jobs.proofs.printing.write_addition.Goals as goal

pub returns : goal.returns
returns g c = Writes-flushed _ _ _ _ _ c.in_ok-write_addition_lines.ensures c.flush.ensures.bytes c.flush.ensures.fault
