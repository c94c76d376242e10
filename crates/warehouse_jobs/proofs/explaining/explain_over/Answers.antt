use Rattle.std.proofs.Common.{ap, Bool, Err, List, refl, subst, ◌∙◌}
use Rattle.std.proofs.lemmas.Result.{err_from_is_err_and}
use Rattle.planner.specs.declared.price.Priced.{Priced}
use Rattle.ssb_reports.specs.Writing.{Writes}
use Rattle.warehouse_root.specs.Layouts.{has_modes}
use Rattle.warehouse_jobs.specs.PlanLines.{plans_text}
use Rattle.warehouse_jobs.proofs.ExplainingLemmas.{explain-refused, explain-written}
use Rattle.warehouse_jobs.proofs.explaining.explain_over.Goals as goal

pub returns-in_err-plans-clause-explains : goal.returns-in_err-plans-clause-explains
returns-in_err-plans-clause-explains g c w at k =
    explain-refused w c.args.count c.args.asked.now (g.W.Write.contents c.args.out.now) _ _
    (c.in_err-plans.ensures.refused.causes _ refl (λ is. c.in_err-plans.ensures.apart (ap (λ f. Err f) is)) w at k)
    (err_from_is_err_and _ c.from_residual.ensures.1)

pub returns-clause-explains : goal.returns-clause-explains
returns-clause-explains g c w at k =
    explain-written w c.args.count c.args.asked.now (g.W.Write.contents c.args.out.now)
    (g.W.Write.contents c.write_plans.new.out) c.in_ok-plans.plans.items c.write_plans.result
    (c.in_ok-plans.ensures.plans w at k)
    (subst (λ (b : Bool). Writes (g.W.Write.contents c.args.out.now) (g.W.Write.contents c.write_plans.new.out)
    c.write_plans.result (plans_text b c.args.count c.in_ok-plans.plans.items))
    (c.has_ship_modes-ship_modes.ensures ∙ ap has_modes (c.layout.ensures w at k))
    (subst (λ (plans : List Priced). Writes (g.W.Write.contents c.args.out.now)
    (g.W.Write.contents c.write_plans.new.out) c.write_plans.result
    (plans_text c.has_ship_modes-ship_modes.result c.args.count plans)) c.as_slice.ensures.value c.write_plans.ensures))
