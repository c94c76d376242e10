-- When the tallies of a column have room, slot by slot.
use Rattle.std.proofs.Common.{◌≡◌, ◌∙◌, sym, ap, refl, ℕ, zero, suc, ◌<◌, ◌^◌, true, false, Bool, List, [], ◌∷◌, length}
use Rattle.std.proofs.Common.{Some, None, arith}
use Rattle.std.specs.Prelude.{Option, ◌&&◌, nat_lt, slice_get}
use Rattle.std.specs.List.{list_all}
use Rattle.std.proofs.lemmas.Bool.Decides.{nat_tests}
use Rattle.cube_model.specs.declared.measure.Agg.{Agg}
use Rattle.cube_model.specs.declared.rows.LineOrder.{LineOrder}
use Rattle.group_tallies.specs.Columns.{can_add, rows_with_slots, aggregate_size, tally_at, HasRoom}
use Rattle.group_tallies.specs.Room.{can_take}
use Rattle.group_tallies.specs.declared.tally.Tally.{Tally}

and_left : (a b : Bool) → (a && b) ≡ true → a ≡ true
and_left true b e = refl
and_left false b e = e

and_right : (a b : Bool) → (a && b) ≡ true → b ≡ true
and_right true b e = e
and_right false b e = absurd (cc e)

module _ (column : List Tally) (count size : ℕ) where
  abbrev takes : Option ℕ → Bool
  takes group_slot = can_take column group_slot count size

  pub each_takes : (group_slots : List (Option ℕ)) → list_all takes group_slots ≡ true → (place slot : ℕ)
      → slice_get group_slots place ≡ Some (Some slot)
      → (slot < length column) × (can_add (tally_at column slot) count size ≡ true)
  each_takes [] all place slot at = absurd (cc at)
  each_takes (None ∷ group_slots) all zero slot at = absurd (cc at)
  each_takes (Some other ∷ group_slots) all zero slot at =
      let same : other ≡ slot = cc at in
      let here = and_left (nat_lt other (length column) && can_add (tally_at column other) count size)
      (list_all takes group_slots) all in
      let within = and_left (nat_lt other (length column)) (can_add (tally_at column other) count size) here in
      let can = and_right (nat_lt other (length column)) (can_add (tally_at column other) count size) here in
      (grind (arith, nat_tests, same, within), ap (λ s. can_add (tally_at column s) count size) (sym same) ∙ can)
  each_takes (group_slot ∷ group_slots) all (suc place) slot at =
      each_takes group_slots (and_right (takes group_slot) (list_all takes group_slots) all) place slot at

  pub all_take : (group_slots : List (Option ℕ))
      → ((place slot : ℕ) → slice_get group_slots place ≡ Some (Some slot) → (slot < length column)
      × (can_add (tally_at column slot) count size ≡ true))
      → list_all takes group_slots ≡ true
  all_take [] each = refl
  all_take (None ∷ group_slots) each = all_take group_slots (λ place slot at. each (suc place) slot at)
  all_take (Some other ∷ group_slots) each =
      let here = each 0 other refl in
      let within : nat_lt other (length column) ≡ true = grind (arith, nat_tests, here.0) in
      let rest = all_take group_slots (λ place slot at. each (suc place) slot at) in
      λ i. (within i && here.1 i) && rest i

-- what the tests say together
module _ (agg : Agg) (column : List Tally) (rows : List LineOrder) (group_slots : List (Option ℕ))
    (same : length group_slots ≡ length rows) (size : ℕ)
    (is : size ≡ aggregate_size agg (rows_with_slots rows group_slots)) where
  pub room_there : size < 2 ^ 63
      → list_all (λ group_slot. can_take column group_slot (length group_slots) size) group_slots ≡ true
      → HasRoom agg column rows group_slots
  room_there small all = record {
    small = omega (arith, small, is);
    each = λ place slot at.
        let here = each_takes column (length group_slots) size group_slots all place slot at in
        (here.0, (λ i. can_add (tally_at column slot) (sym same i) (sym is i)) ∙ here.1);
  }

  pub room_taken : HasRoom agg column rows group_slots
      → list_all (λ group_slot. can_take column group_slot (length group_slots) size) group_slots ≡ true
  room_taken room = all_take column (length group_slots) size group_slots (λ place slot at.
      let here = room.each place slot at in
      (here.0, (λ i. can_add (tally_at column slot) (same i) (is i)) ∙ here.1))
