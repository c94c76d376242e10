use Rattle.std.proofs.Common.{◌+◌, ◌∷◌, ◌++◌, [], List, map, append_assoc, refl, sym, ap, ◌∙◌}
use Rattle.std.specs.List.{range_with_len}
use Rattle.std.proofs.lemmas.List.FromFn.{map-range_with_len_more}
use Rattle.cube_model.specs.declared.rows.LineOrder.{LineOrder}
use Rattle.column_segment.specs.Decoded.{row_in}
use Rattle.column_segment.proofs.rows.push_each.Goals as goal

pub loop-i-preserved : goal.loop-i-preserved
loop-i-preserved c =
    let row = row_in c.args.bytes.now c.args.layout.now in
    let old : List LineOrder = c.args.to.now.items in
    let done : List LineOrder = map row (range_with_len c.args.first c.loop-i.i) in
    c.in_ok-push.ensures.items
    ∙ ap (λ (l : List LineOrder). l ++ c.in_ok-row.row ∷ []) c.loop-i.invariant
    ∙ append_assoc old done (c.in_ok-row.row ∷ [])
    ∙ ap (λ (r : LineOrder). old ++ (done ++ r ∷ [])) c.in_ok-row.ensures.ok
    ∙ ap (λ (l : List LineOrder). old ++ l)
    (sym (map-range_with_len_more row c.args.first c.loop-i.i (c.args.first + c.loop-i.i) refl))
