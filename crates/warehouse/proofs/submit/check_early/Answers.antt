use Rattle.std.proofs.Common.{◌≤◌, [], ◌∷◌, length, sym, ◌∙◌, ap, arith}
use Rattle.cube_model.specs.Causes.{first_cause}
use Rattle.cube_model.specs.Limits.{most_batch_rows}
use Rattle.batch_admission.specs.Found.{Found}
use Rattle.warehouse.proofs.EarlyCauses.{early_found}
use Rattle.warehouse.proofs.submit.check_early.Goals as goal

pub more-requires : goal.more-requires
more-requires c =
    let none = ap (λ (f : Found). f.row_count) (c.findings.ensures.found c.args.dims.now) in
    record { few = omega (arith, none, c.if-rows-gt-MOST_BATCH_ROWS.false) }

pub returns-in-Some-clause-model : goal.returns-in-Some-clause-model
returns-in-Some-clause-model c = λ batches has.
    let few : length c.args.rows.now ≤ most_batch_rows = omega (arith, c.if-rows-gt-MOST_BATCH_ROWS.false) in
    sym c.in-Some.is ∙ c.early_cause.ensures.cause
    ∙ ap (λ (f : Found). first_cause (f.long_text ∷ f.unknown_key ∷ []))
    (c.more.ensures c.args.admission.now.totals [] (c.findings.ensures.found c.args.dims.now))
    ∙ early_found c.args.dims.now batches c.args.admission.now.count c.args.number c.args.rows.now has.count
    c.in_ok-check_number.ensures.cause few

pub returns-in-None-clause-model : goal.returns-in-None-clause-model
returns-in-None-clause-model c = λ batches has.
    let few : length c.args.rows.now ≤ most_batch_rows = omega (arith, c.if-rows-gt-MOST_BATCH_ROWS.false) in
    sym c.in-None.is ∙ c.early_cause.ensures.cause
    ∙ ap (λ (f : Found). first_cause (f.long_text ∷ f.unknown_key ∷ []))
    (c.more.ensures c.args.admission.now.totals [] (c.findings.ensures.found c.args.dims.now))
    ∙ early_found c.args.dims.now batches c.args.admission.now.count c.args.number c.args.rows.now has.count
    c.in_ok-check_number.ensures.cause few
