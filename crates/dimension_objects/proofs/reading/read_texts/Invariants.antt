use Rattle.std.proofs.Common.{take}
use Rattle.dimension_objects.specs.Columns.{ReadsColumnTexts}
use Rattle.dimension_objects.proofs.reading.read_texts.Given as goal

abbrev pub invariant-loop-column : goal.invariant-loop-column
invariant-loop-column l = ReadsColumnTexts (take l.column-index l.order) l.fn.cursor l.cursor l.fn.columns.items
    l.columns.items
