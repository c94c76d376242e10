use Rattle.std.proofs.Common.{◌≡◌, ◌+◌, ◌++◌, ◌∷◌, ◌<◌, [], sym, subst, take, length, arith}
use Rattle.std.proofs.lemmas.List.{take_more}
use Rattle.group_numbers.specs.Rows.{no_row, row_at}
use Rattle.group_tallies.specs.Slots.{entries_of}
use Rattle.group_tallies.specs.FoldInvariant.{AreGroupSlots}
use Rattle.group_tallies.proofs.Marking.{AreGroupSlots-keep, AreGroupSlots-push}
use Rattle.cube_query.proofs.group_slots.group_slots_of.Goals as goal

pub loop-place-preserved : goal.loop-place-preserved
loop-place-preserved g c =
    let dimensions = c.args.grouping.now.dimensions in
    let query = c.args.grouping.now.query in
    let place = c.loop-place.place in
    let all = g.F.FactRows.rows c.args.rows.now in
    let row = row_at all place in
    let front = take place all in
    let new = entries_of c.group_slot_of.new.slots in
    let group_slot = c.in_ok-group_slot.group_slot in
    let in_rows : place < length all = omega (arith, c.loop-place-test.true, c.count-place-end.ensures) in
    let rows : take (place + 1) all ≡ front ++ row ∷ [] = take_more all place no_row in_rows in
    let kept = AreGroupSlots-keep dimensions query (entries_of c.loop-place.slots) new c.group_slot_of.ensures.keep
    front c.loop-place.group_slots.items c.loop-place.invariant.0 in
    let pushed = AreGroupSlots-push dimensions query new front c.loop-place.group_slots.items row group_slot kept
    c.in_ok-group_slot.ensures.group_slot in (
      subst (λ rs. AreGroupSlots dimensions query new rs c.push.new.self.items) (sym rows)
          (subst (λ ms. AreGroupSlots dimensions query new (front ++ row ∷ []) ms) (sym c.in_ok-push.ensures.items)
          pushed),
      c.group_slot_of.ensures.cover,
      c.group_slot_of.ensures.grow (entries_of c.args.slots.now) c.loop-place.invariant.2,
    )
