use Rattle.std.proofs.lemmas.Result.{err_from_is_err_and}
use Rattle.ssb_reports.proofs.Beginnings.{Writes-stop_after}
use Rattle.warehouse_jobs.specs.PlanLines.{other_line}
use Rattle.warehouse_jobs.proofs.Written.{next_text}
use Rattle.warehouse_jobs.proofs.plan_lines.write_others.Goals as goal

pub returns-in_err-write_plan : goal.returns-in_err-write_plan
returns-in_err-write_plan g c =
    Writes-stop_after _ _ _ _ _ _ _ _ _ (err_from_is_err_and _ c.from_residual.ensures.1) c.loop-one.invariant
    c.in_err-write_plan.ensures
    (next_text (other_line c.args.ship_modes c.args.as_of) c.args.others.now c.loop-one.one-index _
    c.loop-one-test.true)
