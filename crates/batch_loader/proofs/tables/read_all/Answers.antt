use Rattle.std.proofs.Common.{arith, refl}
use Rattle.std.proofs.lemmas.Grind.{common_steps}
use Rattle.std.proofs.lemmas.Result.{err_from_is_err_and}
use Rattle.batch_loader.specs.Columns.{row_of}
use Rattle.batch_loader.specs.Reading.{RefusesBatch, RefusesTable, TakesBatch, TakesTable}
use Rattle.batch_loader.proofs.TakingRows.{AnswersRows-refused, RefusesTable-batch, TakesTable-fewer}
use Rattle.batch_loader.proofs.tables.read_all.Goals as goal

pub returns : goal.returns
returns g c = record {
  again = grind (arith, common_steps);
  held = search;
  taken = TakesTable-fewer (row_of g.T.TableRow.columns g.T.TableRow.of_fields) 18446744073709551615 c.args.lines.now
      c.read_rows.new.lines c.in_ok-rows.rows
      (omega (arith, c.if-len.false, c.len.ensures, c.in_ok-rows.ensures.taken.few)) c.in_ok-rows.ensures.taken;
  refused = search;
  line = search;
}

pub returns-in_err-rows : goal.returns-in_err-rows
returns-in_err-rows g c =
    let row = row_of g.T.TableRow.columns g.T.TableRow.of_fields in
    let p = err_from_is_err_and c.from_residual.result c.from_residual.ensures.1 in
    rw (p.1, p.2)
    (AnswersRows-refused row (TakesBatch row 18446744073709551615 c.args.lines.now c.read_rows.new.lines)
    (TakesTable row c.args.lines.now c.read_rows.new.lines)
    (RefusesBatch row 18446744073709551615 c.args.lines.now) (RefusesTable row c.args.lines.now) c.args.lines.now
    c.args.lines.now c.read_rows.new.lines _ refl
    (λ none. RefusesTable-batch row 18446744073709551615 c.args.lines.now _) c.in_err-rows.ensures)
