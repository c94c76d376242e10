use Rattle.std.proofs.Common.{List, map, sym, ap, ◌∙◌}
use Rattle.cube_model.specs.declared.rows.LineOrder.{LineOrder}
use Rattle.column_segment.specs.Columns.{fact_value}
use Rattle.column_segment.proofs.Values.{byte_values}
use Rattle.column_segment.proofs.fact_columns.FactColumns.figures.Goals as goal

pub returns : goal.returns
returns c =
    c.byte_part.ensures.value
    ∙ sym (byte_values c.self.inside.bytes.now c.self.inside.layout.now c.self.invariant.room c.args.column.name
    c.args.column.wide)
    ∙ ap (λ (rows : List LineOrder). map (fact_value c.args.column.name) rows) c.self.view_is
