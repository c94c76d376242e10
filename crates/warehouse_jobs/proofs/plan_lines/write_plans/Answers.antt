use Rattle.ssb_reports.proofs.Beginnings.{Writes-flushed}
use Rattle.warehouse_jobs.proofs.plan_lines.write_plans.Goals as goal

pub returns : goal.returns
returns g c = Writes-flushed _ _ _ _ _ c.in_ok-write_plan_lines.ensures c.flush.ensures.bytes c.flush.ensures.fault
