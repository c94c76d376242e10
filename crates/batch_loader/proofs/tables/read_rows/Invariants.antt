use Rattle.batch_loader.specs.Columns.{row_of}
use Rattle.batch_loader.proofs.TakingRows.{IsTaking}
use Rattle.batch_loader.proofs.tables.read_rows.Given as goal

abbrev pub invariant-loop : goal.invariant-loop
invariant-loop g l = IsTaking (row_of g.T.TableRow.columns g.T.TableRow.of_fields) l.max l.fn.lines l.lines l.rows
    l.counter
