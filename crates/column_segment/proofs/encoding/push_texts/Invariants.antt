use Rattle.std.proofs.Common.{List, ◌++◌, take}
use Rattle.cube_model.specs.declared.rows.LineOrder.{LineOrder}
use Rattle.column_segment.specs.Encoding.{HaveTexts}
use Rattle.column_segment.proofs.encoding.push_texts.Given as goal

abbrev pub invariant-loop-place : goal.invariant-loop-place
invariant-loop-place l = (before : List LineOrder) → HaveTexts before l.initial.texts
    → HaveTexts (before ++ take l.place l.rows) l.texts
