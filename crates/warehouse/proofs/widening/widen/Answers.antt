use Rattle.std.proofs.Common.{Some, ⊎_elim, inl, inr, ap, sym, ◌∙◌}
use Rattle.std.proofs.lemmas.Result.{IfOk-weaker}
use Rattle.cube_model.specs.declared.fault.Fault.{Fault}
use Rattle.warehouse.specs.Refusing.{is_of_device}
use Rattle.warehouse.proofs.Refusing.{addition_apart}
use Rattle.warehouse.proofs.widening.widen.Goals as goal

pub returns-in-Ok-clause-ok : goal.returns-in-Ok-clause-ok
returns-in-Ok-clause-ok c =
    IfOk-weaker c.of.result _ _ (λ wider widens. widens c.args.dims.now c.in-Ok.ensures.ok c.in-Ok.ensures.storable)
    c.of.ensures.ok

pub returns-in-Err-clause-err : goal.returns-in-Err-clause-err
returns-in-Err-clause-err c =
    ⊎_elim (λ memory. inl (c.cause_of.ensures.cause (ap is_of_device memory) ∙ memory))
    (λ cause. inr
    (cause ∙ ap (λ (f : Fault). Some f)
    (sym (c.cause_of.ensures.cause (addition_apart c.args.dims.now c.args.rows.now c.in-Err.fault cause)))))
    c.in-Err.ensures.err
