use Rattle.std.proofs.Common.{◌∙◌, sym, ap, inr, Some}
use Rattle.std.proofs.lemmas.Result.{err_from_is_err_and}
use Rattle.batch_loader.specs.LineFields.{fields_at}
use Rattle.batch_loader.specs.Tables.{lineorder_columns, lineorder_of_fields}
use Rattle.batch_loader.proofs.RowsLemmas.{no_fields, no_row, row_or_memory}
use Rattle.batch_loader.proofs.rows.LineOrderTableRow.read.Goals as goal

pub returns-in_default : goal.returns-in_default
returns-in_default c =
    inr (no_fields lineorder_columns lineorder_of_fields c.args.number c.args.line.now c.requires
    c.in_default.ensures.split)

pub returns-in_err-numbers : goal.returns-in_err-numbers
returns-in_err-numbers c =
    let p = err_from_is_err_and c.from_residual.result c.from_residual.ensures.1 in
    rw (p.1, p.2)
    (inr (no_row lineorder_columns lineorder_of_fields c.args.number c.args.line.now c.requires
    (fields_at c.new-fields.result) (c.in-Some.ensures.split ∙ ap Some (sym c.new-fields.ensures))
    c.in_err-numbers.field-0.0 c.in_err-numbers.ensures.refused))

pub line_order-requires : goal.line_order-requires
line_order-requires c = c.in_ok-numbers.ensures.numbers

pub returns : goal.returns
returns c =
    row_or_memory lineorder_columns lineorder_of_fields c.args.number c.args.line.now c.requires
    (fields_at c.new-fields.result) (c.in-Some.ensures.split ∙ ap Some (sym c.new-fields.ensures))
    c.in_ok-numbers.ensures.fits c.line_order.result c.line_order.ensures.ok c.line_order.ensures.err
