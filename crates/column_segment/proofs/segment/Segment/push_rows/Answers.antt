use Rattle.std.proofs.Common.{ℕ, List, ◌++◌, map, min, take, drop, ap, ◌∙◌}
use Rattle.std.specs.List.{range_with_len}
use Rattle.std.proofs.lemmas.Result.{on_ok_weaker}
use Rattle.cube_model.specs.declared.rows.LineOrder.{LineOrder}
use Rattle.column_segment.specs.Batch.{Batch}
use Rattle.column_segment.specs.Decoded.{row_in}
use Rattle.column_segment.proofs.Parts.{places}
use Rattle.column_segment.proofs.segment.Segment.push_rows.Goals as goal

pub returns-clause-ok : goal.returns-clause-ok
returns-clause-ok c =
    let layout = c.self.inside.layout in
    let old : List LineOrder = c.args.to.now.items in
    on_ok_weaker c.push_each.result
    (λ put.
    put ∙ ap (λ (text : List ℕ). old ++ map (row_in text layout) (range_with_len c.args.from c.min.result))
    c.deref.ensures.value
    ∙ ap (λ (l : List LineOrder). old ++ l)
    (places (row_in c.self.inside.bytes.items layout) layout.rows c.args.from c.args.most c.min.result
    (c.min.ensures ∙ ap (min c.args.most) c.saturating_sub-left.ensures))
    ∙ ap (λ (batch : Batch). old ++ take c.args.most (drop c.args.from batch.rows)) c.self.view_is)
    c.push_each.ensures.ok
