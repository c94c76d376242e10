use Rattle.std.proofs.Common.{arith}
use Rattle.std.proofs.lemmas.Grind.{common_steps}
use Rattle.std.proofs.lemmas.Result.{err_from_is_err_and}
use Rattle.batch_loader.specs.Columns.{row_of}
use Rattle.batch_loader.specs.Reading.{PushesNext, RefusesBatch, RefusesRow, TakesBatch}
use Rattle.batch_loader.proofs.TakingRows.{AnswersRows-refused, IsTaking-push, IsTaking-refused}
use Rattle.batch_loader.proofs.tables.read_rows.Goals as goal

pub returns-in_err-push_row : goal.returns-in_err-push_row
returns-in_err-push_row g c =
    let row = row_of g.T.TableRow.columns g.T.TableRow.of_fields in
    let p = err_from_is_err_and c.from_residual.result c.from_residual.ensures.1 in
    rw (p.1, p.2)
    (AnswersRows-refused row (PushesNext row c.loop.lines c.push_row.new.lines c.loop.rows c.push_row.new.rows)
    (TakesBatch row c.args.max c.args.lines.now c.push_row.new.lines) (RefusesRow row c.loop.lines)
    (RefusesBatch row c.args.max c.args.lines.now) c.args.lines.now c.loop.lines c.push_row.new.lines _
    (grind (arith, common_steps))
    (λ none refused. IsTaking-refused row c.args.max c.args.lines.now c.loop.lines c.loop.rows c.loop.counter _
    c.loop-test.true refused c.loop.invariant)
    c.in_err-push_row.ensures)

pub loop-preserved : goal.loop-preserved
loop-preserved g c =
    IsTaking-push (row_of g.T.TableRow.columns g.T.TableRow.of_fields) c.args.max c.args.lines.now c.loop.lines
    c.push_row.new.lines c.loop.rows c.push_row.new.rows c.loop.counter c.loop-test.true
    (rw c.if-not-branch.false at c.in_ok-push_row.ensures.taken) c.loop.invariant
