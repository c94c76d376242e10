use Rattle.std.proofs.Common.{take}
use Rattle.dimension_objects.specs.Columns.{ReadsColumns}
use Rattle.dimension_objects.proofs.reading.read_columns.Given as goal

abbrev pub invariant-loop-column : goal.invariant-loop-column
invariant-loop-column l =
    ReadsColumns l.axis l.rows (take l.column-index l.order) l.fn.cursor l.cursor l.fn.columns.items l.columns.items
