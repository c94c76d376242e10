use Rattle.std.proofs.lemmas.Result.{err_from_is_err_and}
use Rattle.cube_model.specs.declared.fault.Fault.TheVariants.{BadLayout}
use Rattle.std.proofs.Common.{◌≡◌, ◌∙◌, Err, List, [], ◌++◌, length, sym, ap, subst, arith}
use Rattle.std.proofs.lemmas.List.{with_items_is}
use Rattle.std.specs.declared.alloc.Global.{Global}
use Rattle.std.specs.declared.vec.Vec.{Vec}
use Rattle.cube_query.specs.Asked.{AreSame, is_asked}
use Rattle.group_tallies.specs.FoldInvariant.{HaveRoom, CountIn, IsKept}
use Rattle.cube_query.specs.Groups.{CanTake, FoldState, IsOver, RepresentsRows}
use Rattle.group_tallies.specs.Slots.{entries_of}
use Rattle.group_tallies.specs.declared.tally.Tally.{Tally}
use Rattle.group_numbers.specs.GroupNumbers.{query_of}
use Rattle.cube_query.proofs.RunningLemmas.{known_for, room_same, slots_same, HaveRoom-ready, kept_count, kept_ready}
use Rattle.cube_query.proofs.RunningLemmas.{shown, shown_ready, represents_count}
use Rattle.group_tallies.proofs.Columnwise.{tallies-length}
use Rattle.cube_query.proofs.Known.{known_after}
use Rattle.group_tallies.proofs.Marking.{AreGroupSlots-length}
use Rattle.cube_query.proofs.running.Fold.add.Goals as goal

pub returns-in_err-group_slots-clause-err : goal.returns-in_err-group_slots-clause-err
returns-in_err-group_slots-clause-err g c =
    let p = err_from_is_err_and c.from_residual.result c.from_residual.ensures.1 in
    let inside = c.self.inside in
    let dims = c.args.dims.now in
    let rows = g.F.FactRows.rows c.args.rows.now in
    let over = subst (λ (state : FoldState). IsOver dims state) (sym c.self.view_is) c.requires in
    rw (p.1) (shown_ready dims inside.grouping over inside.slots inside.columns.items c.self.invariant c.ready.new.slots
    c.ready.new.columns.items c.ready.ensures.cover c.ready.ensures.grow c.ready.ensures.same ∙ c.self.view_is)

pub returns-in_err-group_slots-clause-refused : goal.returns-in_err-group_slots-clause-refused
returns-in_err-group_slots-clause-refused g c =
    let inside = c.self.inside in
    let dims = c.args.dims.now in
    let rows = g.F.FactRows.rows c.args.rows.now in
    let over = subst (λ (state : FoldState). IsOver dims state) (sym c.self.view_is) c.requires in
    let p = err_from_is_err_and c.from_residual.result c.from_residual.ensures.1 in
    rw (p.1, p.2) (λ bad others same can.
    let given = subst (λ (state : FoldState). CanTake dims state others) (sym c.self.view_is) can in
    let alike = subst (λ (state : FoldState). AreSame (is_asked state.query) rows others) (sym c.self.view_is) same in
    let is : c.in_err-group_slots.field-0.0 ≡ BadLayout = cc bad in
    c.in_err-group_slots.ensures.refused (ap (λ fault. Err fault) is)
    (known_for dims (query_of inside.grouping) rows others alike (known_after dims 1 given.0 others given.1.1.known)))

pub have_room-requires-clause-columns : goal.have_room-requires-clause-columns
have_room-requires-clause-columns g c =
    let inside = c.self.inside in
    let dims = c.args.dims.now in
    let rows = g.F.FactRows.rows c.args.rows.now in
    let over = subst (λ (state : FoldState). IsOver dims state) (sym c.self.view_is) c.requires in
    let entries = entries_of c.ready.new.slots in
    let kept = kept_ready dims inside.grouping over inside.slots inside.columns.items c.self.invariant c.ready.new.slots
    c.ready.new.columns.items c.ready.ensures.cover c.ready.ensures.grow c.ready.ensures.same in
    ap length c.as_slice.ensures.value
    ∙ tallies-length (query_of inside.grouping).aggregates c.ready.new.columns.items (length entries) []
    (kept.fresh (length entries) (omega arith))
    ∙ sym (ap length (c.as_slice-aggregates.ensures ∙ ap (λ q. q.aggregates) c.query.ensures))

pub have_room-requires-clause-group_slots : goal.have_room-requires-clause-group_slots
have_room-requires-clause-group_slots g c =
    let inside = c.self.inside in
    let dims = c.args.dims.now in
    let rows = g.F.FactRows.rows c.args.rows.now in
    let over = subst (λ (state : FoldState). IsOver dims state) (sym c.self.view_is) c.requires in
    ap length c.as_slice-2.ensures.value
    ∙ AreGroupSlots-length dims (query_of inside.grouping) (entries_of c.ready.new.slots) rows
    c.in_ok-group_slots.group_slots.items c.in_ok-group_slots.ensures.group_slots

pub returns-then-not-have_room-clause-err : goal.returns-then-not-have_room-clause-err
returns-then-not-have_room-clause-err g c =
    let inside = c.self.inside in
    let dims = c.args.dims.now in
    let rows = g.F.FactRows.rows c.args.rows.now in
    let over = subst (λ (state : FoldState). IsOver dims state) (sym c.self.view_is) c.requires in
    shown_ready dims inside.grouping over inside.slots inside.columns.items c.self.invariant c.ready.new.slots
    c.ready.new.columns.items c.ready.ensures.cover c.ready.ensures.grow c.ready.ensures.same ∙ c.self.view_is

pub returns-then-not-have_room-clause-refused : goal.returns-then-not-have_room-clause-refused
returns-then-not-have_room-clause-refused g c =
    let inside = c.self.inside in
    let dims = c.args.dims.now in
    let rows = g.F.FactRows.rows c.args.rows.now in
    let over = subst (λ (state : FoldState). IsOver dims state) (sym c.self.view_is) c.requires in
    let longer = c.ready.new.columns.items in
    let group_slots = c.in_ok-group_slots.group_slots.items in
    let aggregates : c.as_slice-aggregates.result.now ≡ (query_of inside.grouping).aggregates =
    c.as_slice-aggregates.ensures ∙ ap (λ q. q.aggregates) c.query.ensures in
    λ bad others same can.
    let given = subst (λ (state : FoldState). CanTake dims state others) (sym c.self.view_is) can in
    let alike = subst (λ (state : FoldState). AreSame (is_asked state.query) rows others) (sym c.self.view_is) same in
    let slots = slots_same dims (query_of inside.grouping) (entries_of c.ready.new.slots) rows others group_slots alike
    c.in_ok-group_slots.ensures.group_slots in
    let room = room_same (query_of inside.grouping) longer rows others group_slots alike
    (HaveRoom-ready dims inside.grouping over inside.slots inside.columns.items c.self.invariant c.ready.new.slots
    c.ready.new.columns.items c.ready.ensures.cover c.ready.ensures.grow c.ready.ensures.same
    others group_slots slots given.0 given.1.0 given.1.1 c.in_ok-group_slots.ensures.long) in
    let there = subst (λ ms. HaveRoom c.as_slice-aggregates.result.now c.as_slice.result.now rows ms)
    (sym c.as_slice-2.ensures.value)
    (subst (λ (columns : List (Vec Tally Global)). HaveRoom c.as_slice-aggregates.result.now columns rows group_slots)
    (sym c.as_slice.ensures.value)
    (subst (λ aggs. HaveRoom aggs longer rows group_slots) (sym aggregates) room)) in
    let yes = c.have_room.ensures.1 there in
    absurd (cc (yes, c.if-not-have_room.true))

pub count_in_all-requires-clause-columns : goal.count_in_all-requires-clause-columns
count_in_all-requires-clause-columns g c =
    let inside = c.self.inside in
    let dims = c.args.dims.now in
    let rows = g.F.FactRows.rows c.args.rows.now in
    let over = subst (λ (state : FoldState). IsOver dims state) (sym c.self.view_is) c.requires in
    let entries = entries_of c.ready.new.slots in
    let kept = kept_ready dims inside.grouping over inside.slots inside.columns.items c.self.invariant c.ready.new.slots
    c.ready.new.columns.items c.ready.ensures.cover c.ready.ensures.grow c.ready.ensures.same in
    ap length c.as_mut_slice.ensures.value
    ∙ tallies-length (query_of inside.grouping).aggregates c.ready.new.columns.items (length entries) []
    (kept.fresh (length entries) (omega arith))
    ∙ sym (ap length (c.as_slice-aggregates.ensures ∙ ap (λ q. q.aggregates) c.query.ensures))

pub count_in_all-requires-clause-group_slots : goal.count_in_all-requires-clause-group_slots
count_in_all-requires-clause-group_slots g c =
    let inside = c.self.inside in
    let dims = c.args.dims.now in
    let rows = g.F.FactRows.rows c.args.rows.now in
    let over = subst (λ (state : FoldState). IsOver dims state) (sym c.self.view_is) c.requires in
    ap length c.as_slice-3.ensures.value
    ∙ AreGroupSlots-length dims (query_of inside.grouping) (entries_of c.ready.new.slots) rows
    c.in_ok-group_slots.group_slots.items c.in_ok-group_slots.ensures.group_slots

pub count_in_all-requires-clause-room : goal.count_in_all-requires-clause-room
count_in_all-requires-clause-room g c =
    let inside = c.self.inside in
    let dims = c.args.dims.now in
    let rows = g.F.FactRows.rows c.args.rows.now in
    let over = subst (λ (state : FoldState). IsOver dims state) (sym c.self.view_is) c.requires in
    let longer = c.ready.new.columns.items in
    let group_slots = c.in_ok-group_slots.group_slots.items in
    let aggregates : c.as_slice-aggregates.result.now ≡ (query_of inside.grouping).aggregates =
    c.as_slice-aggregates.ensures ∙ ap (λ q. q.aggregates) c.query.ensures in
    let room = c.have_room.ensures.0 c.if-not-have_room.false in
    subst (λ ms. HaveRoom c.as_slice-aggregates.result.now c.as_mut_slice.result.now rows ms)
    (c.as_slice-2.ensures.value ∙ sym c.as_slice-3.ensures.value)
    (subst (λ (columns : List (Vec Tally Global)). HaveRoom c.as_slice-aggregates.result.now columns rows
    c.as_slice-2.result.now) (c.as_slice.ensures.value ∙ sym c.as_mut_slice.ensures.value) room)

pub invariant_of-self-2 : goal.invariant_of-self-2
invariant_of-self-2 g c =
    let inside = c.self.inside in
    let dims = c.args.dims.now in
    let rows = g.F.FactRows.rows c.args.rows.now in
    let over = subst (λ (state : FoldState). IsOver dims state) (sym c.self.view_is) c.requires in
    let longer = c.ready.new.columns.items in
    let group_slots = c.in_ok-group_slots.group_slots.items in
    let aggregates : c.as_slice-aggregates.result.now ≡ (query_of inside.grouping).aggregates =
    c.as_slice-aggregates.ensures ∙ ap (λ q. q.aggregates) c.query.ensures in
    let new = c.count_in_all.new.columns in
    let count = subst (λ aggs. CountIn aggs rows group_slots longer new) aggregates
    (subst (λ (columns : List (Vec Tally Global)). CountIn c.as_slice-aggregates.result.now rows group_slots columns
    new) c.as_mut_slice.ensures.value
    (subst (λ ms. CountIn c.as_slice-aggregates.result.now rows ms c.as_mut_slice.result.now new)
    c.as_slice-3.ensures.value c.count_in_all.ensures)) in
    let len : length new ≡ c.ready.new.columns.len = c.count_in_all.auto.columns ∙ c.as_mut_slice.ensures.len in
    let kept = kept_count dims inside.grouping over inside.slots inside.columns.items c.self.invariant c.ready.new.slots
    c.ready.new.columns.items c.ready.ensures.cover c.ready.ensures.grow c.ready.ensures.same
    rows group_slots c.in_ok-group_slots.ensures.group_slots new count in
    subst (IsKept inside.grouping c.ready.new.slots) (sym (with_items_is c.ready.new.columns new len)) kept

pub returns-clause-ok : goal.returns-clause-ok
returns-clause-ok g c =
    let inside = c.self.inside in
    let dims = c.args.dims.now in
    let rows = g.F.FactRows.rows c.args.rows.now in
    let over = subst (λ (state : FoldState). IsOver dims state) (sym c.self.view_is) c.requires in
    let longer = c.ready.new.columns.items in
    let group_slots = c.in_ok-group_slots.group_slots.items in
    let aggregates : c.as_slice-aggregates.result.now ≡ (query_of inside.grouping).aggregates =
    c.as_slice-aggregates.ensures ∙ ap (λ q. q.aggregates) c.query.ensures in
    let new = c.count_in_all.new.columns in
    let count = subst (λ aggs. CountIn aggs rows group_slots longer new) aggregates
    (subst (λ (columns : List (Vec Tally Global)). CountIn c.as_slice-aggregates.result.now rows group_slots columns
    new) c.as_mut_slice.ensures.value
    (subst (λ ms. CountIn c.as_slice-aggregates.result.now rows ms c.as_mut_slice.result.now new)
    c.as_slice-3.ensures.value c.count_in_all.ensures)) in
    let len : length new ≡ c.ready.new.columns.len = c.count_in_all.auto.columns ∙ c.as_mut_slice.ensures.len in
    record {
      query = ap (λ state. state.query) c.self.view_is;
      represents = λ so_far represents.
          subst (λ columns. RepresentsRows dims (shown inside.grouping c.ready.new.slots columns) (so_far ++ rows))
          (sym (with_items_is c.ready.new.columns new len))
          (represents_count dims inside.grouping over inside.slots inside.columns.items c.self.invariant
          c.ready.new.slots
          c.ready.new.columns.items c.ready.ensures.cover c.ready.ensures.grow c.ready.ensures.same
          rows group_slots c.in_ok-group_slots.ensures.group_slots new count so_far
          (subst (λ (state : FoldState). RepresentsRows dims state so_far) (sym c.self.view_is) represents));
    }
