use Rattle.std.proofs.Common.{◌≡◌, ◌≤◌, ◌+◌, ◌*◌, ℕ, List, Some, length, take}
use Rattle.std.specs.List.{AllByRecursion}
use Rattle.column_segment.specs.Decoded.{HoldsColumns}
use Rattle.column_segment.specs.Projected.{FitsColumnIn, ShareColumn}
use Rattle.wire.specs.Runs.{HasRead}
use Rattle.column_segment.proofs.projecting.read_columns.Given as goal

abbrev pub invariant-loop-i : goal.invariant-loop-i
invariant-loop-i g l = record {
  holds : HoldsColumns l.bytes l.rows;
  read : HasRead g.S.Source l.initial.source l.source;
  shared : g.S.Source.keeps_word l.source → (text : List ℕ) → g.S.Source.texts l.initial.source l.id ≡ Some text
      → 12 + 63 * l.rows ≤ length text
      → AllByRecursion (ShareColumn l.rows l.bytes text) (take l.i l.columns);
  fit : g.S.Source.keeps_word l.source → (text : List ℕ) → g.S.Source.texts l.initial.source l.id ≡ Some text
      → 12 + 63 * l.rows ≤ length text
      → AllByRecursion (FitsColumnIn text l.rows) (take l.i l.columns);
}
