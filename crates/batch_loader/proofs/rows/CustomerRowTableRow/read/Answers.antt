use Rattle.std.proofs.Common.{◌∙◌, sym, ap, inl, inr, Ok, Err}
use Rattle.std.proofs.lemmas.Result.{err_from_is_err_and}
use Rattle.batch_loader.specs.LineFields.{field_texts}
use Rattle.batch_loader.specs.Tables.{customer_columns, customer_of_fields}
use Rattle.batch_loader.proofs.RowsLemmas.{no_fields, no_row, is_row}
use Rattle.batch_loader.proofs.rows.CustomerRowTableRow.read.Goals as goal

pub returns-in_err-fields : goal.returns-in_err-fields
returns-in_err-fields c =
    let p = err_from_is_err_and c.from_residual.result c.from_residual.ensures.1 in
    rw (p.1, p.2)
    (inr (no_fields customer_columns customer_of_fields c.args.number c.args.line.now c.requires
    c.in_err-fields.ensures.0 ∙ ap Err (sym c.in_err-fields.ensures.1)))

pub returns-in_err-numbers : goal.returns-in_err-numbers
returns-in_err-numbers c =
    let p = err_from_is_err_and c.from_residual-in_err-numbers.result c.from_residual-in_err-numbers.ensures.1 in
    rw (p.1, p.2)
    (inr (no_row customer_columns customer_of_fields c.args.number c.args.line.now c.requires
    (field_texts c.in_ok-fields.fields) c.in_ok-fields.ensures c.in_err-numbers.field-0.0
    c.in_err-numbers.ensures.refused))

pub returns-in_err-city : goal.returns-in_err-city
returns-in_err-city c =
    let p = err_from_is_err_and c.from_residual-in_err-city.result c.from_residual-in_err-city.ensures.1 in
    rw (p.1, p.2) (inl c.in_err-city.ensures.err)

pub returns : goal.returns
returns c =
    let texts = c.in_ok-city.ensures.ok in
    is_row customer_columns customer_of_fields c.args.number c.args.line.now c.requires
    (field_texts c.in_ok-fields.fields)
    c.in_ok-fields.ensures c.in_ok-numbers.ensures.fits
    ∙ (λ i. Ok (record {
      key = sym c.in_ok-numbers.ensures.numbers.0.0 i;
      city = sym (texts.0 ∙ c.get.ensures) i;
      nation = sym (texts.1 ∙ c.get-2.ensures) i;
      region = sym (texts.2 ∙ c.get-3.ensures) i;
    }))
