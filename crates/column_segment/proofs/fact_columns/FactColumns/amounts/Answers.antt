use Rattle.std.proofs.Common.{List, map, sym, ap, ◌∙◌}
use Rattle.std.specs.Int.{from_le_bytes, w64}
use Rattle.cube_model.specs.declared.rows.LineOrder.{LineOrder}
use Rattle.column_segment.specs.Columns.{fact_value}
use Rattle.column_segment.proofs.Values.{amount_values}
use Rattle.column_segment.proofs.fact_columns.FactColumns.amounts.Goals as goal

pub returns : goal.returns
returns c =
    ap (map (from_le_bytes w64)) c.chunks.ensures.value
    ∙ sym (amount_values c.self.inside.bytes.now c.self.inside.layout.now c.args.column.name c.args.column.wide)
    ∙ ap (λ (rows : List LineOrder). map (fact_value c.args.column.name) rows) c.self.view_is
