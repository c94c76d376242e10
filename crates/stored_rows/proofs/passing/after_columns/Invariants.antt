use Rattle.std.proofs.Common.{◌≡◌, ℕ, List, Some, drop}
use Rattle.cube_model.specs.declared.rows.LineOrder.{LineOrder}
use Rattle.wire.specs.Runs.{HasRead}
use Rattle.column_segment.specs.Columns.{text_columns}
use Rattle.stored_rows.specs.TextColumns.{SpellColumns}
use Rattle.stored_rows.proofs.passing.after_columns.Given as goal

abbrev pub invariant-loop : goal.invariant-loop
invariant-loop g l = record {
  read : HasRead g.S.Source l.initial.source l.source;
  passed : g.S.Source.keeps_word l.source → (text : List ℕ) → g.S.Source.texts l.initial.source l.id ≡ Some text
      → (others : List LineOrder) → SpellColumns text_columns l.rows (drop l.from text) others
      → SpellColumns (drop l.counter text_columns) l.rows (drop l.at text) others;
}
