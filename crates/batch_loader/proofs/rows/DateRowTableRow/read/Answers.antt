use Rattle.std.proofs.Common.{◌∙◌, sym, ap, inl, inr, Ok, Err}
use Rattle.std.proofs.lemmas.Result.{err_from_is_err_and}
use Rattle.batch_loader.specs.LineFields.{field_texts}
use Rattle.batch_loader.specs.Tables.{date_columns, date_of_fields}
use Rattle.batch_loader.proofs.RowsLemmas.{no_fields, no_row, is_row}
use Rattle.batch_loader.proofs.rows.DateRowTableRow.read.Goals as goal

pub returns-in_err-fields : goal.returns-in_err-fields
returns-in_err-fields c =
    let p = err_from_is_err_and c.from_residual.result c.from_residual.ensures.1 in
    rw (p.1, p.2)
    (inr (no_fields date_columns date_of_fields c.args.number c.args.line.now c.requires c.in_err-fields.ensures.0
    ∙ ap Err (sym c.in_err-fields.ensures.1)))

pub returns-in_err-numbers : goal.returns-in_err-numbers
returns-in_err-numbers c =
    let p = err_from_is_err_and c.from_residual-in_err-numbers.result c.from_residual-in_err-numbers.ensures.1 in
    rw (p.1, p.2)
    (inr (no_row date_columns date_of_fields c.args.number c.args.line.now c.requires
    (field_texts c.in_ok-fields.fields) c.in_ok-fields.ensures c.in_err-numbers.field-0.0
    c.in_err-numbers.ensures.refused))

pub returns-in_err-year : goal.returns-in_err-year
returns-in_err-year c =
    let p = err_from_is_err_and c.from_residual-in_err-year.result c.from_residual-in_err-year.ensures.1 in
    rw (p.1, p.2) (inl c.in_err-year.ensures.err)

pub returns-in_err-weeknuminyear : goal.returns-in_err-weeknuminyear
returns-in_err-weeknuminyear c =
    let p = err_from_is_err_and c.from_residual-in_err-weeknuminyear.result
    c.from_residual-in_err-weeknuminyear.ensures.1 in
    rw (p.1, p.2) (inl c.in_err-weeknuminyear.ensures.err)

pub returns : goal.returns
returns c =
    let texts = c.in_ok-year.ensures.ok in
    is_row date_columns date_of_fields c.args.number c.args.line.now c.requires (field_texts c.in_ok-fields.fields)
    c.in_ok-fields.ensures c.in_ok-numbers.ensures.fits
    ∙ (λ i. Ok (record {
      key = sym c.in_ok-numbers.ensures.numbers.0.0 i;
      year = sym (texts.0 ∙ c.get.ensures) i;
      yearmonthnum = sym (texts.1 ∙ c.get-2.ensures) i;
      yearmonth = sym (texts.2 ∙ c.get-3.ensures) i;
      weeknuminyear = sym (c.in_ok-weeknuminyear.ensures.ok ∙ c.get-4.ensures) i;
    }))
