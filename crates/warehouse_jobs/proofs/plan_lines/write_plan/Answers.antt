use Rattle.std.proofs.Common.{◌++◌, ◌-◌, refl}
use Rattle.std.proofs.lemmas.Result.{err_from_is_err_and}
use Rattle.planned_queries.specs.Planned.{mark_of}
use Rattle.ssb_reports.proofs.Beginnings.{Writes-on, Writes-stop, Writes-stop_after}
use Rattle.warehouse_jobs.specs.PlanLines.{cost_text, source_text}
use Rattle.warehouse_jobs.proofs.plan_lines.write_plan.Goals as goal

pub returns-in_err-write_bytes : goal.returns-in_err-write_bytes
returns-in_err-write_bytes g c =
    let one = c.args.one.now in
    Writes-stop _ _ _ _ c.args.name.now
    (source_text c.args.ship_modes one.plan ++ cost_text (c.args.as_of - mark_of one.plan) one.cost) _
    (err_from_is_err_and _ c.from_residual.ensures.1) c.in_err-write_bytes.ensures refl

pub returns-in_err-write_source : goal.returns-in_err-write_source
returns-in_err-write_source g c =
    let one = c.args.one.now in
    Writes-stop_after _ _ _ _ _ c.args.name.now (source_text c.args.ship_modes one.plan)
    (cost_text (c.args.as_of - mark_of one.plan) one.cost) _
    (err_from_is_err_and _ c.from_residual-in_err-write_source.ensures.1) c.in_ok-write_bytes.ensures
    c.in_err-write_source.ensures refl

pub returns : goal.returns
returns g c =
    let one = c.args.one.now in
    Writes-on _ _ _ _ c.args.name.now
    (source_text c.args.ship_modes one.plan ++ cost_text (c.args.as_of - mark_of one.plan) one.cost) _
    c.in_ok-write_bytes.ensures
    (Writes-on _ _ _ _ (source_text c.args.ship_modes one.plan) (cost_text (c.args.as_of - mark_of one.plan) one.cost) _
    c.in_ok-write_source.ensures
    (rw (← c.tail_of.ensures) c.write_cost.ensures) refl) refl
