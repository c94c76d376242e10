use Rattle.std.proofs.Common.{◌≡◌, ◌∙◌, ◌+◌, ◌<◌, sym, subst, ap, arith, length, set}
use Rattle.std.proofs.lemmas.Grind.{get_or_default_zero}
use Rattle.cube_model.specs.Places.{text_at}
use Rattle.group_numbers.specs.Kinds.{HasEachKind}
use Rattle.group_numbers.proofs.MemberRowsLemmas.{HaveSoFar, so_far_all, so_far_more}
use Rattle.group_numbers.proofs.member_rows.member_places.Goals as goal

pub rank-rank-requires : goal.rank-rank-requires
rank-rank-requires c =
    let rows = c.in_ok-rows.rows.items in
    let i = c.loop-i.i in
    let hold = subst (λ axis. HasEachKind c.args.dims.now axis rows) c.axis.ensures c.in_ok-rows.ensures.places in
    let low : i < length rows = omega (arith, c.loop-i-test.true, c.len-i-end.ensures) in
    omega (arith, hold.within i low, c.index.ensures, get_or_default_zero rows i c.index.result.now low)

pub loop-i-preserved : goal.loop-i-preserved
loop-i-preserved c =
    let dims = c.args.dims.now in
    let attr = c.args.attr in
    let rows = c.in_ok-rows.rows.items in
    let i = c.loop-i.i in
    let places = c.loop-i.places.items in
    let hold = subst (λ axis. HasEachKind dims axis rows) c.axis.ensures c.in_ok-rows.ensures.places in
    let low : i < length rows = omega (arith, c.loop-i-test.true, c.len-i-end.ensures) in
    let row = c.index.ensures ∙ get_or_default_zero rows i c.index.result.now low in
    let again = c.index-in-loop-i.ensures ∙ get_or_default_zero rows i c.index-in-loop-i.result.now low in
    subst (λ n. HaveSoFar dims attr rows (i + 1) (set places c.rank-rank.result n)) (sym again)
    (so_far_more dims attr rows i c.rank-rank.result places c.loop-i.invariant (hold.within i low)
    c.rank-rank.ensures.below
    (c.rank-rank.ensures.text ∙ ap (text_at dims attr) row))

pub returns : goal.returns
returns c =
    let dims = c.args.dims.now in
    let attr = c.args.attr in
    let rows = c.in_ok-rows.rows.items in
    let hold = subst (λ axis. HasEachKind dims axis rows) c.axis.ensures c.in_ok-rows.ensures.places in
    let end : c.loop-i.i ≡ length rows = omega (arith, c.loop-i-test.false, c.loop-i.auto.i-end, c.len-i-end.ensures) in
    so_far_all dims attr rows c.in_ok-rows.ensures.storable
    hold c.loop-i.places.items
    (subst (λ count. HaveSoFar dims attr rows count c.loop-i.places.items) end c.loop-i.invariant)
