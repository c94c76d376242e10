use Rattle.std.proofs.Common.{◌*◌, List, ◌++◌, length, take}
use Rattle.std.specs.Prelude.{min}
use Rattle.cube_model.specs.declared.rows.LineOrder.{LineOrder}
use Rattle.column_segment.specs.Encoding.{HaveRows}
use Rattle.column_segment.proofs.encoding.BatchColumns.push.Given as goal

abbrev pub invariant-loop-piece : goal.invariant-loop-piece
invariant-loop-piece l = (before : List LineOrder) → HaveRows before l.initial.self
    → HaveRows (before ++ take (min (length l.rows) (l.piece * 256)) l.rows) l.self
