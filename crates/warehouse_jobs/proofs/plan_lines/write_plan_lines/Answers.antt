use Rattle.std.proofs.lemmas.Result.{err_from_is_err_and}
use Rattle.ssb_reports.proofs.Beginnings.{Writes-on, Writes-stop}
use Rattle.warehouse_jobs.proofs.PlanLinesLemmas.{taken-first}
use Rattle.warehouse_jobs.proofs.plan_lines.write_plan_lines.Goals as goal

pub returns-in_err-write_plan-in-len1-up : goal.returns-in_err-write_plan-in-len1-up
returns-in_err-write_plan-in-len1-up g c =
    Writes-stop _ _ _ _ _ _ _ (err_from_is_err_and _ c.from_residual.ensures.1) c.in_err-write_plan-in-len1-up.ensures
    (taken-first c.args.ship_modes c.args.as_of c.args.plans.now _ c.in-len1-up.len_at_least)

pub returns-in_ok-write_plan-in-len1-up : goal.returns-in_ok-write_plan-in-len1-up
returns-in_ok-write_plan-in-len1-up g c =
    Writes-on _ _ _ _ _ _ _ c.in_ok-write_plan-in-len1-up.ensures c.write_others.ensures
    (taken-first c.args.ship_modes c.args.as_of c.args.plans.now _ c.in-len1-up.len_at_least)
