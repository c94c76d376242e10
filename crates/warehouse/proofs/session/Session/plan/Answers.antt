use Rattle.std.proofs.Common.{◌≡◌, length, sym}
use Rattle.std.proofs.lemmas.Result.{IfErr-at_err, IfOk-weaker}
use Rattle.cube_model.specs.declared.fault.Fault.{Fault}
use Rattle.cube_model.specs.declared.fault.Fault.TheVariants.{Memory}
use Rattle.warehouse.proofs.Asking.{asked_within, check_refuses, checked_refuses, counted_at}
use Rattle.warehouse.proofs.Cuboids.{agrees}
use Rattle.warehouse.proofs.session.Session.plan.Goals as goal

pub returns-in-Err-clause-refused : goal.returns-in-Err-clause-refused
returns-in-Err-clause-refused g c =
    check_refuses g.D.Sectors c.args.as_of _ c.args.self.now _ (length c.batches.result.now)
    (λ w at k. counted_at g.D.Sectors w c.args.self.now at k _ c.batches.ensures.value)
    (λ k. k) c.in-Err.fault c.in-Err.ensures.causes

pub returns-clause-plan : goal.returns-clause-plan
returns-clause-plan g c =
    IfOk-weaker c.plan_of.result _ _ (λ plan is w at k.
    let s = c.args.self.now in
    let many = counted_at g.D.Sectors w s at k _ c.batches.ensures.value in (
      asked_within _ w c.args.as_of (length c.batches.result.now) many c.in_default.ensures.ok,
      is w (sym (agrees g.D.Sectors w s at k).root_is),
    )) c.plan_of.ensures.plan

pub returns-clause-refused : goal.returns-clause-refused
returns-clause-refused g c =
    checked_refuses g.D.Sectors c.args.as_of _ _ c.args.self.now c.args.self.now (length c.batches.result.now)
    (λ w at k. counted_at g.D.Sectors w c.args.self.now at k _ c.batches.ensures.value)
    (λ k. k) c.in_default.ensures.ok
    (λ fault is other w at k. IfErr-at_err (λ (f : Fault). f ≡ Memory) is c.plan_of.ensures.memory)
