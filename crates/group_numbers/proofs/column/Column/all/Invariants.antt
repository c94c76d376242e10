use Rattle.group_numbers.specs.Columns.{AreColumns}
use Rattle.group_numbers.proofs.column.Column.all.Given as goal

abbrev pub invariant-loop-i : goal.invariant-loop-i
invariant-loop-i l = AreColumns l.dims l.columns l.i l.all.items
