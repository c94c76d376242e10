use Rattle.std.proofs.Common.{◌≡◌, ◌∙◌, ◌<◌, sym, subst, arith, length, slice_index_or}
use Rattle.std.specs.Vec.{with_items}
use Rattle.std.specs.declared.alloc.Global.{Global}
use Rattle.std.specs.declared.vec.Vec.{Vec}
use Rattle.std.proofs.lemmas.List.{get_or_default, with_items_is}
use Rattle.cube_model.specs.declared.measure.Agg.TheVariants.{Count}
use Rattle.group_tallies.specs.Columns.{slotted, CountsIn}
use Rattle.group_tallies.specs.declared.tally.Tally.{Tally}
use Rattle.group_tallies.proofs.Columnwise.{HasRoom-at, AreAddedBelow-set, AddIn-whole}
use Rattle.group_tallies.proofs.columns.count_in_all.Goals as goal

pub count_in-requires-clause-room : goal.count_in-requires-clause-room
count_in-requires-clause-room g c = rw c.as_mut_slice.ensures.value
    (HasRoom-at c.args.aggs.now (g.F.FactRows.rows c.args.rows.now) c.args.group_slots.now c.args.columns.now
    c.loop-i.columns c.loop-i.i c.requires.columns c.loop-i-test.true c.requires.room c.loop-i.invariant Count
    c.index-columns-i.result)

pub loop-i-preserved : goal.loop-i-preserved
loop-i-preserved g c =
    let i = c.loop-i.i in
    let aggs = c.args.aggs.now in
    let rows = g.F.FactRows.rows c.args.rows.now in
    let group_slots = c.args.group_slots.now in
    let column = slice_index_or c.loop-i.columns i c.index-columns-i.result in
    let new = c.count_in.new.column in
    let h : i < length aggs = c.loop-i-test.true in
    let in_columns : i < length c.loop-i.columns =
    omega (arith, h, c.loop-i.invariant.same_length, c.requires.columns) in
    let counted : CountsIn (slice_index_or aggs i Count) rows group_slots column.items new =
    subst (λ old. CountsIn (slice_index_or aggs i Count) rows group_slots old new) c.as_mut_slice.ensures.value
    c.count_in.ensures.counted in
    let len : length new ≡ column.len = c.count_in.ensures.length ∙ c.as_mut_slice.ensures.len in
    AreAddedBelow-set aggs (λ slot. slotted slot rows group_slots) c.args.columns.now c.loop-i.columns i
    (with_items column new) c.requires.columns h c.loop-i.invariant
    (λ agg first.
    subst (CountsIn (slice_index_or aggs i agg) rows group_slots (slice_index_or c.loop-i.columns i first).items)
    (sym (with_items_is column new len))
    (subst (λ a. CountsIn a rows group_slots (slice_index_or c.loop-i.columns i first).items new)
    (get_or_default aggs i Count agg h)
    (subst (λ (old : Vec Tally Global). CountsIn (slice_index_or aggs i Count) rows group_slots old.items new)
    (get_or_default c.loop-i.columns i c.index-columns-i.result first in_columns) counted)))

pub returns : goal.returns
returns g c =
    AddIn-whole c.args.aggs.now (λ slot. slotted slot (g.F.FactRows.rows c.args.rows.now) c.args.group_slots.now)
    c.args.columns.now c.loop-i.columns c.loop-i.i c.requires.columns (omega (arith, c.loop-i-test.false))
    c.loop-i.invariant
