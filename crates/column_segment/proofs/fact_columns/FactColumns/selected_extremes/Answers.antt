use Rattle.std.proofs.Common.{length, sym, ap, ◌∙◌}
use Rattle.column_segment.proofs.Values.{rows_many}
use Rattle.column_segment.proofs.fact_columns.FactColumns.selected_extremes.Goals as goal

pub selected_extremes-requires-clause-rows : goal.selected_extremes-requires-clause-rows
selected_extremes-requires-clause-rows c = c.requires.rows ∙ ap length (sym c.self.view_is)
    ∙ rows_many c.self.inside.bytes.now c.self.inside.layout.now
