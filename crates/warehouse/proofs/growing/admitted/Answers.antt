use Rattle.std.proofs.Common.{◌≡◌, Some, length, sym, ◌∙◌, ap}
use Rattle.cube_model.specs.Admission.{refusal}
use Rattle.batch_admission.specs.Found.{found_in}
use Rattle.warehouse.proofs.Refusing.{refusal_apart}
use Rattle.warehouse.proofs.Preparing.{can_follow}
use Rattle.warehouse.proofs.growing.admitted.Goals as goal

pub returns-in-Ok-clause-follows : goal.returns-in-Ok-clause-follows
returns-in-Ok-clause-follows c = λ dimensions rows is.
    let after = is ∙ ap (λ totals. found_in dimensions totals rows) (sym c.admission_of-admission.ensures.totals) in
    can_follow c.admission_of-admission.result.count (length c.args.root.now.batches) c.args.number rows
    (c.in-Ok.ensures.follows dimensions rows after) c.admission_of-admission.ensures.count

pub returns-in-Ok-clause-model : goal.returns-in-Ok-clause-model
returns-in-Ok-clause-model c = λ w rows root_is is.
    let after = is ∙ ap (λ totals. found_in w.rows totals rows) (sym c.admission_of-admission.ensures.totals) in
    let admits = c.in-Ok.ensures.admits w.rows w.batches rows (c.admission_of-admission.ensures.represents w root_is)
    after in
    (sym admits.cause, c.totals.ensures.totals ∙ admits.taken.totals)

pub returns-in-Err-clause-model : goal.returns-in-Err-clause-model
returns-in-Err-clause-model c = λ w rows root_is is.
    let after = is ∙ ap (λ totals. found_in w.rows totals rows) (sym c.admission_of-admission.ensures.totals) in
    let admits = c.in-Err.ensures.admits w.rows w.batches rows (c.admission_of-admission.ensures.represents w root_is)
    after in
    let refused : refusal w.rows w.batches c.args.number rows ≡ Some c.in-Err.fault = sym admits.cause in
    refused ∙ ap (λ f. Some f)
    (sym (c.cause_of.ensures.cause (refusal_apart w.rows w.batches c.args.number rows c.in-Err.fault refused)))
