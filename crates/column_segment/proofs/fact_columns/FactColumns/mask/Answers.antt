use Rattle.std.proofs.Common.{List, map, refl, ap, subst, ◌∙◌}
use Rattle.std.proofs.lemmas.Result.{IfOk-weaker}
use Rattle.cube_model.specs.declared.rows.LineOrder.{LineOrder}
use Rattle.column_kernels.specs.Masks.{lies_in}
use Rattle.column_segment.specs.Projected.{HaveSmallFigures}
use Rattle.column_segment.specs.declared.columns.FactColumn.TheVariants.{Quantity, Discount}
use Rattle.column_segment.proofs.Totals.{marks_are}
use Rattle.column_segment.proofs.Values.{read_fit}
use Rattle.column_segment.proofs.fact_columns.FactColumns.mask.Goals as goal

pub returns-clause-ok : goal.returns-clause-ok
returns-clause-ok c =
    IfOk-weaker c.of_ranges.result _ _
    (λ mask is.
    is
    ∙ marks_are c.self.inside.bytes.now c.self.inside.layout.now c.self.invariant c.args.quantity c.args.discount
    c.byte_part-quantities.result.now c.byte_part-discounts.result.now
    c.byte_part-quantities.ensures.value c.byte_part-discounts.ensures.value
    ∙ ap (λ (rows : List LineOrder). map
    (λ (row : LineOrder). lies_in c.args.quantity c.args.discount row.quantity row.discount) rows) c.self.view_is)
    c.of_ranges.ensures.ok

pub returns-clause-figures : goal.returns-clause-figures
returns-clause-figures c =
    let bytes = c.self.inside.bytes.now in
    let layout = c.self.inside.layout.now in
    subst HaveSmallFigures c.self.view_is (record {
      quantities = read_fit bytes layout c.self.invariant.room Quantity refl c.byte_part-quantities.result.now
          c.byte_part-quantities.ensures.value c.byte_part-quantities.ensures.fit;
      discounts = read_fit bytes layout c.self.invariant.room Discount refl c.byte_part-discounts.result.now
          c.byte_part-discounts.ensures.value c.byte_part-discounts.ensures.fit;
    })
