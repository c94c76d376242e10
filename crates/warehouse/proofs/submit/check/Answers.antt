use Rattle.std.proofs.Common.{Some, sym, ◌∙◌, ap}
use Rattle.warehouse.proofs.Refusing.{refused_apart}
use Rattle.warehouse.proofs.submit.check.Goals as goal

pub returns-in-Err-clause-model : goal.returns-in-Err-clause-model
returns-in-Err-clause-model c = λ w rows_are root_is.
    let refused = c.in-Err.ensures.model w rows_are root_is in
    refused ∙ ap (λ f. Some f)
    (sym (c.cause_of.ensures.cause
    (refused_apart w.layout w.rows w.batches c.args.number c.args.rows.now c.in-Err.fault refused)))
