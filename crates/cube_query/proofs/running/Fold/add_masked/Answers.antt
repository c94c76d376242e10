use Rattle.std.proofs.Common.{◌≡◌, ◌∙◌, ◌<◌, Ok, List, ℕ, true, [], length, map, sym, ap, subst, inl, inr, arith}
use Rattle.std.specs.List.{AllByRecursion}
use Rattle.std.proofs.lemmas.List.{length-map}
use Rattle.std.specs.declared.alloc.Global.{Global}
use Rattle.std.specs.declared.vec.Vec.{Vec}
use Rattle.std.proofs.lemmas.Result.{err_from_is_err_and}
use Rattle.cube_model.specs.Selection.{is_selected}
use Rattle.cube_model.specs.declared.fault.Fault.TheVariants.{BadLayout}
use Rattle.cube_model.specs.declared.measure.Agg.{Agg}
use Rattle.column_kernels.specs.Masks.{selected_by}
use Rattle.group_numbers.specs.GroupNumbers.{query_of}
use Rattle.cube_query.specs.Asked.{AreSame, is_asked}
use Rattle.group_tallies.specs.Columns.{tallies_at}
use Rattle.cube_query.specs.Groups.{CanTake, FoldState, IsOver, RepresentsRows, Takes}
use Rattle.group_tallies.specs.Slots.{entries_of}
use Rattle.cube_query.specs.WholeBatch.{HaveRoomAt, has_one_group, tallies_with_rows}
use Rattle.group_tallies.specs.declared.tally.Tally.{Tally}
use Rattle.cube_query.proofs.RunningLemmas.{marks_same, masked_same, room_at_same, kept_batch, kept_one, place_first}
use Rattle.cube_query.proofs.RunningLemmas.{room_one, shown_one, slot_within, represents_batch, takes_none}
use Rattle.cube_query.proofs.Choosing.{can_take_marked, takes_all}
use Rattle.group_tallies.proofs.Columnwise.{tallies-length}
use Rattle.cube_query.proofs.WholeBatches.{mask_keeps, none_selected, some_selected}
use Rattle.cube_query.proofs.running.Fold.add_masked.Goals as goal

pub returns-then-count-eq0-clause-ok : goal.returns-then-count-eq0-clause-ok
returns-then-count-eq0-clause-ok c =
    let dims = c.args.dims.now in
    let old = c.args.self.now in
    let rows = c.args.batch.now in
    let mask = c.args.mask.now in
    let none = none_selected mask rows
    (ap length c.requires.mask ∙ length-map rows (is_selected dims old.query.conditions))
    (sym c.count.ensures ∙ c.if-count-eq0.true) in
    takes_all (Ok (tt {0})) dims old (selected_by mask rows) rows old
    (mask_keeps dims old.query.conditions mask rows c.requires.mask)
    (subst (λ some. Takes dims old some old) (sym none) (takes_none dims old))

pub ready_for_one-requires : goal.ready_for_one-requires
ready_for_one-requires c =
    let inside = c.self.inside in
    let over = subst (λ (state : FoldState). IsOver c.args.dims.now state) (sym c.self.view_is) c.requires.over in
    let one = subst (λ (state : FoldState). has_one_group state.query ≡ true) (sym c.self.view_is)
    c.requires.one_group in
    place_first c.args.dims.now inside.grouping over inside.slots inside.columns.items c.self.invariant one

pub returns-in_err-slot-clause-err : goal.returns-in_err-slot-clause-err
returns-in_err-slot-clause-err c =
    let p = err_from_is_err_and c.from_residual.result c.from_residual.ensures.1 in
    let inside = c.self.inside in
    let over = subst (λ (state : FoldState). IsOver c.args.dims.now state) (sym c.self.view_is) c.requires.over in
    let one = subst (λ (state : FoldState). has_one_group state.query ≡ true) (sym c.self.view_is)
    c.requires.one_group in
    let found = c.ready_for_one.ensures in
    rw (p.1) (shown_one c.args.dims.now inside.grouping over inside.slots inside.columns.items c.self.invariant one
    c.ready_for_one.new.slots c.ready_for_one.new.columns.items found.cover found.grow found.same
    ∙ c.self.view_is)

pub with_batch-requires-clause-columns : goal.with_batch-requires-clause-columns
with_batch-requires-clause-columns c =
    let inside = c.self.inside in
    let over = subst (λ (state : FoldState). IsOver c.args.dims.now state) (sym c.self.view_is) c.requires.over in
    let one = subst (λ (state : FoldState). has_one_group state.query ≡ true) (sym c.self.view_is)
    c.requires.one_group in
    let found = c.ready_for_one.ensures in
    let entries = entries_of c.ready_for_one.new.slots in
    let longer = c.ready_for_one.new.columns.items in
    let kept = kept_one c.args.dims.now inside.grouping over inside.slots inside.columns.items c.self.invariant one
    c.ready_for_one.new.slots longer found.cover found.grow found.same in
    ap length c.as_slice.ensures.value
    ∙ tallies-length (query_of inside.grouping).aggregates longer (length entries) []
    (kept.fresh (length entries) (omega arith))
    ∙ sym (ap length (c.as_slice-aggregates.ensures ∙ ap (λ q. q.aggregates) c.query.ensures))

pub with_batch-requires-clause-rows : goal.with_batch-requires-clause-rows
with_batch-requires-clause-rows c = ap length c.requires.mask ∙ length-map c.args.batch.now _

pub with_batch-requires-clause-within : goal.with_batch-requires-clause-within
with_batch-requires-clause-within c =
    let inside = c.self.inside in
    let over = subst (λ (state : FoldState). IsOver c.args.dims.now state) (sym c.self.view_is) c.requires.over in
    let one = subst (λ (state : FoldState). has_one_group state.query ≡ true) (sym c.self.view_is)
    c.requires.one_group in
    let found = c.ready_for_one.ensures in
    subst (λ (list : List (Vec Tally Global)). AllByRecursion (λ column. c.in_ok-slot.slot < length column.items) list)
    (sym c.as_slice.ensures.value)
    (slot_within c.args.dims.now inside.grouping over inside.slots inside.columns.items c.self.invariant one
    c.ready_for_one.new.slots c.ready_for_one.new.columns.items found.cover found.grow found.same
    c.in_ok-slot.slot c.in_ok-slot.ensures.slot c.in_ok-slot.ensures.long)

pub invariant_of-self-2 : goal.invariant_of-self-2
invariant_of-self-2 c =
    let inside = c.self.inside in
    let dims = c.args.dims.now in
    let rows = c.args.batch.now in
    let over = subst (λ (state : FoldState). IsOver dims state) (sym c.self.view_is) c.requires.over in
    let one = subst (λ (state : FoldState). has_one_group state.query ≡ true) (sym c.self.view_is)
    c.requires.one_group in
    let found = c.ready_for_one.ensures in
    let aggregates : c.as_slice-aggregates.result.now ≡ (query_of inside.grouping).aggregates =
    c.as_slice-aggregates.ensures ∙ ap (λ q. q.aggregates) c.query.ensures in
    let marks = c.requires.mask ∙ ap (λ (state : FoldState). map (is_selected dims state.query.conditions) rows)
    (sym c.self.view_is) in
    let is = λ (other : ℕ). c.in_ok-merged.ensures.ok other
    ∙ (λ i. tallies_with_rows (aggregates i) (selected_by c.args.mask.now rows) c.in_ok-slot.slot other
    (tallies_at (c.as_slice.ensures.value i) other)) in
    kept_batch dims inside.grouping over inside.slots inside.columns.items c.self.invariant one
    c.ready_for_one.new.slots
    c.ready_for_one.new.columns.items found.cover found.grow found.same
    c.in_ok-slot.slot c.in_ok-slot.ensures.slot c.args.mask.now rows marks c.in_ok-merged.merged.items is

pub returns-clause-ok : goal.returns-clause-ok
returns-clause-ok c =
    let inside = c.self.inside in
    let dims = c.args.dims.now in
    let old = c.args.self.now in
    let rows = c.args.batch.now in
    let mask = c.args.mask.now in
    let over = subst (λ (state : FoldState). IsOver dims state) (sym c.self.view_is) c.requires.over in
    let one = subst (λ (state : FoldState). has_one_group state.query ≡ true) (sym c.self.view_is)
    c.requires.one_group in
    let found = c.ready_for_one.ensures in
    let aggregates : c.as_slice-aggregates.result.now ≡ (query_of inside.grouping).aggregates =
    c.as_slice-aggregates.ensures ∙ ap (λ q. q.aggregates) c.query.ensures in
    let marks = c.requires.mask ∙ ap (λ (state : FoldState). map (is_selected dims state.query.conditions) rows)
    (sym c.self.view_is) in
    let own = c.requires.mask in
    let is = λ (other : ℕ). c.in_ok-merged.ensures.ok other
    ∙ (λ i. tallies_with_rows (aggregates i) (selected_by mask rows) c.in_ok-slot.slot other
    (tallies_at (c.as_slice.ensures.value i) other)) in
    takes_all (Ok (tt {0})) dims old (selected_by mask rows) rows _ (mask_keeps dims old.query.conditions mask rows own)
    (record {
      query = ap (λ state. state.query) c.self.view_is;
      represents = λ so_far represents.
          represents_batch dims inside.grouping over inside.slots inside.columns.items c.self.invariant one
          c.ready_for_one.new.slots c.ready_for_one.new.columns.items found.cover found.grow found.same
          c.in_ok-slot.slot c.in_ok-slot.ensures.slot mask rows marks c.in_ok-merged.merged.items is so_far
          (subst (λ (state : FoldState). RepresentsRows dims state so_far) (sym c.self.view_is) represents);
    })

pub returns-in_err-merged-clause-err : goal.returns-in_err-merged-clause-err
returns-in_err-merged-clause-err c =
    let p = err_from_is_err_and c.from_residual-in_err-merged.result c.from_residual-in_err-merged.ensures.1 in
    let inside = c.self.inside in
    let over = subst (λ (state : FoldState). IsOver c.args.dims.now state) (sym c.self.view_is) c.requires.over in
    let one = subst (λ (state : FoldState). has_one_group state.query ≡ true) (sym c.self.view_is)
    c.requires.one_group in
    let found = c.ready_for_one.ensures in
    rw (p.1) (shown_one c.args.dims.now inside.grouping over inside.slots inside.columns.items c.self.invariant one
    c.ready_for_one.new.slots c.ready_for_one.new.columns.items found.cover found.grow found.same
    ∙ c.self.view_is)

pub returns-in_err-merged-clause-refused : goal.returns-in_err-merged-clause-refused
returns-in_err-merged-clause-refused c =
    let p = err_from_is_err_and c.from_residual-in_err-merged.result c.from_residual-in_err-merged.ensures.1 in
    rw (p.1, p.2) (λ bad others same can.
    let inside = c.self.inside in
    let dims = c.args.dims.now in
    let old = c.args.self.now in
    let rows = c.args.batch.now in
    let mask = c.args.mask.now in
    let over = subst (λ (state : FoldState). IsOver dims state) (sym c.self.view_is) c.requires.over in
    let one = subst (λ (state : FoldState). has_one_group state.query ≡ true) (sym c.self.view_is)
    c.requires.one_group in
    let alike = subst (λ (state : FoldState). AreSame (is_asked state.query) rows others) (sym c.self.view_is) same in
    let found = c.ready_for_one.ensures in
    let aggregates : c.as_slice-aggregates.result.now ≡ (query_of inside.grouping).aggregates =
    c.as_slice-aggregates.ensures ∙ ap (λ q. q.aggregates) c.query.ensures in
    let marks = c.requires.mask ∙ ap (λ (state : FoldState). map (is_selected dims state.query.conditions) rows)
    (sym c.self.view_is) ∙ marks_same dims (query_of inside.grouping) rows others alike in
    let given = subst (λ (state : FoldState). CanTake dims state (selected_by mask others)) (sym c.self.view_is)
    (can_take_marked dims old mask others can) in
    let long = ap length marks ∙ length-map others (is_selected dims (query_of inside.grouping).conditions) in
    let any = some_selected mask others long (λ none. c.if-count-eq0.false (c.count.ensures ∙ none)) in
    let room = room_at_same (query_of inside.grouping) c.ready_for_one.new.columns.items c.in_ok-slot.slot
    (selected_by mask rows) (selected_by mask others)
    (masked_same (is_asked (query_of inside.grouping)) mask rows others alike)
    (room_one dims inside.grouping over inside.slots inside.columns.items c.self.invariant one c.ready_for_one.new.slots
    c.ready_for_one.new.columns.items found.cover found.grow found.same
    c.in_ok-slot.slot c.in_ok-slot.ensures.slot mask others marks given.0 given.1.0 given.1.1 c.in_ok-slot.ensures.long
    any) in
    let there : HaveRoomAt c.as_slice-aggregates.result.now c.as_slice.result.now c.in_ok-slot.slot
    (selected_by mask rows) =
    subst (λ (aggs : List Agg). HaveRoomAt aggs c.as_slice.result.now c.in_ok-slot.slot (selected_by mask rows))
    (sym aggregates)
    (subst (λ (columns : List (Vec Tally Global)). HaveRoomAt (query_of inside.grouping).aggregates columns
    c.in_ok-slot.slot (selected_by mask rows)) (sym c.as_slice.ensures.value) room) in
    let is : c.in_err-merged.field-0.0 ≡ BadLayout = cc bad in
    elim c.in_err-merged.ensures.refused [
      | inl memory ↦ absurd (cc (is, memory))
      | inr none ↦ none.1 there
    ])

pub invariant_of-self : goal.invariant_of-self
invariant_of-self c =
    let inside = c.self.inside in
    let over = subst (λ (state : FoldState). IsOver c.args.dims.now state) (sym c.self.view_is) c.requires.over in
    let one = subst (λ (state : FoldState). has_one_group state.query ≡ true) (sym c.self.view_is)
    c.requires.one_group in
    let found = c.ready_for_one.ensures in
    kept_one c.args.dims.now inside.grouping over inside.slots inside.columns.items c.self.invariant one
    c.ready_for_one.new.slots c.ready_for_one.new.columns.items found.cover found.grow found.same

pub invariant_of-self-in_err-merged : goal.invariant_of-self-in_err-merged
invariant_of-self-in_err-merged c =
    let inside = c.self.inside in
    let over = subst (λ (state : FoldState). IsOver c.args.dims.now state) (sym c.self.view_is) c.requires.over in
    let one = subst (λ (state : FoldState). has_one_group state.query ≡ true) (sym c.self.view_is)
    c.requires.one_group in
    let found = c.ready_for_one.ensures in
    kept_one c.args.dims.now inside.grouping over inside.slots inside.columns.items c.self.invariant one
    c.ready_for_one.new.slots c.ready_for_one.new.columns.items found.cover found.grow found.same
