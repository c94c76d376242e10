use Rattle.std.proofs.Common.{◌≡◌, ◌≤◌, Some, [], ◌∷◌, length, sym, ◌∙◌, ap, arith}
use Rattle.cube_model.specs.Admission.{early_refusal}
use Rattle.cube_model.specs.Causes.{first_cause}
use Rattle.cube_model.specs.Limits.{most_batch_rows}
use Rattle.batch_admission.specs.Found.{Found}
use Rattle.warehouse.proofs.EarlyCauses.{early_found}
use Rattle.warehouse.proofs.Refusing.{early_apart}
use Rattle.warehouse.proofs.growing.GrowingBatch.check_early.Goals as goal

pub returns-in-Some-clause-model : goal.returns-in-Some-clause-model
returns-in-Some-clause-model c = λ w rows root_is grown.
    let many = ap (λ (f : Found). f.row_count) grown.found in
    let few : length rows ≤ most_batch_rows =
    omega (arith, many, c.early_cause.ensures.few) in
    let refused : early_refusal w.rows w.batches c.args.number rows ≡ Some c.in-Some.fault =
    sym (sym c.in-Some.is ∙ c.early_cause.ensures.cause
    ∙ ap (λ (f : Found). first_cause (f.long_text ∷ f.unknown_key ∷ [])) grown.found
    ∙ early_found w.rows w.batches c.admission_of.result.count c.args.number rows
    (c.admission_of.ensures.represents w root_is).count c.in_default.ensures.cause few) in
    refused ∙ ap (λ f. Some f)
    (sym (c.cause_of-in-Some.ensures.cause
    (early_apart w.rows w.batches c.args.number rows c.in-Some.fault refused)))
