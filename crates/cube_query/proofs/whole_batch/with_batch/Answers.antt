use Rattle.std.proofs.Common.{◌≡◌, ◌∙◌, ◌==◌, ◌<◌, cond, map, ap, refl, inr, arith, length, get_or}
use Rattle.std.specs.Vec.{with_items}
use Rattle.std.proofs.lemmas.List.{with_items_is}
use Rattle.std.specs.declared.alloc.Global.{Global}
use Rattle.std.specs.declared.vec.Vec.{Vec}
use Rattle.cube_model.specs.declared.measure.Agg.TheVariants.{Count}
use Rattle.column_kernels.specs.Masks.{selected_by}
use Rattle.group_tallies.specs.Columns.{can_add, aggregate_size, tallies_at, tally_at}
use Rattle.group_tallies.specs.Tallies.{merged_tally, aggregated, tally_of}
use Rattle.cube_query.specs.WholeBatch.{HaveRoomAt}
use Rattle.group_tallies.specs.declared.tally.Tally.{Tally}
use Rattle.group_tallies.proofs.Columnwise.{All-at}
use Rattle.cube_query.proofs.WholeBatches.{one_column, set_at}
use Rattle.cube_query.proofs.whole_batch.with_batch.Goals as goal

pub merge_batch-requires-clause-within : goal.merge_batch-requires-clause-within
merge_batch-requires-clause-within c =
    let i = c.loop-place.place in
    let column = get_or c.args.columns.now i c.index-columns-place.result in
    let within : c.args.slot < length column.items =
    All-at (λ (column : Vec Tally Global). c.args.slot < length column.items) c.args.columns.now c.requires.within i
    c.loop-place-test.true c.index-columns-place.result in
    let old : c.as_mut_slice.result.now ≡ column.items =
    c.as_mut_slice.ensures.value ∙ c.in_ok-column.ensures.items ∙ c.as_slice.ensures.value
    ∙ ap (λ (v : Vec Tally Global). v.items) c.index-columns-place.is in
    omega (arith, within, ap length old)

pub loop-place-preserved : goal.loop-place-preserved
loop-place-preserved c = λ other.
    let i = c.loop-place.place in
    let aggs = c.args.aggs.now in
    let rows = selected_by c.args.mask.now c.args.batch.now in
    let slot = c.args.slot in
    let column = get_or c.args.columns.now i c.index-columns-place.result in
    let new = c.merge_batch.new.column in
    let made = with_items c.in_ok-column.column new in
    let tally = tally_of (map (aggregated (get_or aggs i Count)) rows) in
    let len : length new ≡ c.in_ok-column.column.len = c.in-Ok.ensures.length ∙ c.as_mut_slice.ensures.len in
    let old : c.as_mut_slice.result.now ≡ column.items =
    c.as_mut_slice.ensures.value ∙ c.in_ok-column.ensures.items ∙ c.as_slice.ensures.value
    ∙ ap (λ (v : Vec Tally Global). v.items) c.index-columns-place.is in
    let within : slot < length column.items =
    All-at (λ (column : Vec Tally Global). slot < length column.items) c.args.columns.now c.requires.within i
    c.loop-place-test.true c.index-columns-place.result in
    let is : tally_at made.items other ≡ cond (slot == other) (merged_tally (tally_at column.items other) tally)
    (tally_at column.items other) =
    ap (λ items. tally_at items other) (with_items_is c.in_ok-column.column new len ∙ c.in-Ok.ensures.ok)
    ∙ set_at c.as_mut_slice.result.now slot other tally (omega (arith, within, ap length old))
    ∙ ap (λ items. cond (slot == other) (merged_tally (tally_at items other) tally) (tally_at items other)) old in
    ap (λ columns. tallies_at columns other) c.in_ok-push.ensures.items
    ∙ one_column rows slot other aggs c.args.columns.now c.loop-place.merged.items i Count c.index-columns-place.result
    made c.requires.columns c.loop-place-test.true (c.loop-place.invariant other) is

pub returns-in-Err-clause-refused : goal.returns-in-Err-clause-refused
returns-in-Err-clause-refused c =
    let i = c.loop-place.place in
    let aggs = c.args.aggs.now in
    let rows = selected_by c.args.mask.now c.args.batch.now in
    let column = get_or c.args.columns.now i c.index-columns-place.result in
    let old : c.as_mut_slice.result.now ≡ column.items =
    c.as_mut_slice.ensures.value ∙ c.in_ok-column.ensures.items ∙ c.as_slice.ensures.value
    ∙ ap (λ (v : Vec Tally Global). v.items) c.index-columns-place.is in
    let within : i < length aggs = omega (arith, c.loop-place-test.true, c.requires.columns) in
    let refused : HaveRoomAt aggs c.args.columns.now c.args.slot rows → ⊥ = λ room.
    c.in-Err.ensures.err
    (ap (λ items. can_add (tally_at items c.args.slot) (length rows) (aggregate_size (get_or aggs i Count) rows)) old
    ∙ room i within Count c.index-columns-place.result) in
    inr (refl, refused)
