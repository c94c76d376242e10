use Rattle.std.proofs.Common.{◌≡◌, ◌∙◌, sym, min, length, arith}
use Rattle.std.specs.Ordering.{nat_cmp}
use Rattle.cube_model.specs.Keys.{member_cmp}
use Rattle.group_tallies.specs.GroupLines.{line_at}
use Rattle.report_formats.proofs.ComparingLemmas.{at_end}
use Rattle.report_formats.proofs.comparing.compare_keys.Goals as goal

pub returns : goal.returns
returns g c =
    let lines = g.L.Lines.lines c.args.lines.now in
    let left = (line_at lines c.args.left).key in
    let right = (line_at lines c.args.right).key in
    let end : c.loop-column.column ≡ min (length left) (length right) =
    omega (
      arith,
      c.loop-column.auto.column-end,
      c.loop-column-test.false,
      c.min-column-end.ensures,
      c.columns_at-left_count.ensures,
      c.columns_at-right_count.ensures,
    ) in
    c.cmp.ensures ∙ (λ i. nat_cmp (c.columns_at-left_count.ensures i) (c.columns_at-right_count.ensures i))
    ∙ sym (at_end member_cmp left right c.loop-column.column end) ∙ sym c.loop-column.invariant
