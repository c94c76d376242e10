-- Rows that are counted in at the slots that they are slotted with.
use Rattle.std.proofs.Common.{◌≡◌, ◌≢◌, ◌∙◌, sym, ap, refl, subst, ℕ, zero, suc, ◌+◌, ◌<◌, ◌≤◌, ◌^◌, true, false, cond}
use Rattle.std.proofs.Common.{ℤ, ◌+ℤ◌, List, [], ◌∷◌, ◌++◌, map, length, length-append, append-nil, append_assoc, take}
use Rattle.std.proofs.Common.{drop, get_or, Some, None, arith, FitsSigned, w64, slice_set, get_or-set_same}
use Rattle.std.proofs.Common.{get_or-set_other}
use Rattle.std.specs.Prelude.{Option, ◌==◌, nat_abs, slice_get}
use Rattle.std.proofs.lemmas.Bool.Decides.{nat_tests}
use Rattle.std.proofs.lemmas.List.{map-append, take_more, take-append-drop, length-take-le, get_or_default}
use Rattle.std.proofs.lemmas.List.Sums.{sum_by-append, sum_by-cons}
use Rattle.std.proofs.lemmas.Option.{slice_get-get_or}
use Rattle.cube_model.specs.declared.measure.Agg.{Agg}
use Rattle.cube_model.specs.declared.rows.LineOrder.{LineOrder}
use Rattle.group_tallies.specs.Columns.{tally_after, tally_at, no_tally, can_add, rows_with_slots, aggregate_size}
use Rattle.group_tallies.specs.Columns.{slotted}
use Rattle.group_tallies.specs.Columns.{IsBounded}
use Rattle.group_tallies.specs.Columns.{IsCountable, HasRoom, CountsIn}
use Rattle.group_tallies.specs.Tallies.{aggregated, tally_of, tally_with}
use Rattle.group_tallies.specs.declared.tally.Tally.{Tally}
use Rattle.group_tallies.proofs.OneRow.{tally_of-push}
use Rattle.group_tallies.proofs.Sums.{FitsSigned-small, nat_abs-+ℤ, nat_abs-total}

-- ---- one number more
pub tally_of-after : (xs : List ℤ) (x : ℤ) → tally_of (xs ++ x ∷ []) ≡ tally_after (tally_of xs) x
tally_of-after [] x = refl
tally_of-after (first ∷ xs) x =
    let some : (length (first ∷ xs) == 0) ≡ false = grind (arith, nat_tests) in
    tally_of-push first xs x ∙ ap (λ b. cond b (tally_of (x ∷ [])) (tally_with (tally_of (first ∷ xs)) x)) (sym some)

pub IsCountable-front : (agg : Agg) (rows others : List LineOrder) → IsCountable agg (rows ++ others)
    → IsCountable agg rows
IsCountable-front agg rows others all = record {
  few = omega (arith, all.few, length-append rows others);
  small = omega (arith, all.small, sum_by-append (λ row. nat_abs (aggregated agg row)) rows others);
}

-- ---- slotted rows
slotted-append : (slot : ℕ) (rows others : List LineOrder) (group_slots others_group_slots : List (Option ℕ))
    → length rows ≡ length group_slots
    → slotted slot (rows ++ others) (group_slots ++ others_group_slots) ≡ slotted slot rows group_slots
    ++ slotted slot others others_group_slots
slotted-append slot [] others [] others_group_slots same = refl
slotted-append slot [] others (group_slot ∷ group_slots) others_group_slots same = absurd (omega (arith, same))
slotted-append slot (row ∷ rows) others [] others_group_slots same = absurd (omega (arith, same))
slotted-append slot (row ∷ rows) others (None ∷ group_slots) others_group_slots same =
    slotted-append slot rows others group_slots others_group_slots (omega (arith, same))
slotted-append slot (row ∷ rows) others (Some other ∷ group_slots) others_group_slots same =
    let rest = slotted-append slot rows others group_slots others_group_slots (omega (arith, same)) in
    elim (other == slot) as
    (λ b. cond b (row ∷ slotted slot (rows ++ others) (group_slots ++ others_group_slots))
    (slotted slot (rows ++ others) (group_slots ++ others_group_slots))
    ≡ cond b (row ∷ slotted slot rows group_slots) (slotted slot rows group_slots)
    ++ slotted slot others others_group_slots) [
      | true ↦ ap (λ more. row ∷ more) rest
      | false ↦ rest
    ]

chosen-append : (rows others : List LineOrder) (group_slots others_group_slots : List (Option ℕ))
    → length rows ≡ length group_slots
    → rows_with_slots (rows ++ others) (group_slots ++ others_group_slots) ≡ rows_with_slots rows group_slots
    ++ rows_with_slots others others_group_slots
chosen-append [] others [] others_group_slots same = refl
chosen-append [] others (group_slot ∷ group_slots) others_group_slots same = absurd (omega (arith, same))
chosen-append (row ∷ rows) others [] others_group_slots same = absurd (omega (arith, same))
chosen-append (row ∷ rows) others (None ∷ group_slots) others_group_slots same =
    chosen-append rows others group_slots others_group_slots (omega (arith, same))
chosen-append (row ∷ rows) others (Some slot ∷ group_slots) others_group_slots same =
    ap (λ more. row ∷ more) (chosen-append rows others group_slots others_group_slots (omega (arith, same)))

-- the sizes of rows in two parts
size-append : (agg : Agg) (rows others : List LineOrder) (group_slots others_group_slots : List (Option ℕ))
    → length rows ≡ length group_slots
    → aggregate_size agg (rows_with_slots (rows ++ others) (group_slots ++ others_group_slots))
    ≡ aggregate_size agg (rows_with_slots rows group_slots)
    + aggregate_size agg (rows_with_slots others others_group_slots)
size-append agg rows others group_slots others_group_slots same =
    ap (aggregate_size agg) (chosen-append rows others group_slots others_group_slots same)
    ∙ sum_by-append (λ row. nat_abs (aggregated agg row)) (rows_with_slots rows group_slots)
    (rows_with_slots others others_group_slots)

same_take : (rows : List LineOrder) (group_slots : List (Option ℕ)) (n : ℕ) → length group_slots ≡ length rows
    → n ≤ length rows → length (take n rows) ≡ length (take n group_slots)
same_take rows group_slots n same h = length-take-le n rows h
    ∙ sym (length-take-le n group_slots (omega (arith, same, h)))

module _ (slot : ℕ) (rows : List LineOrder) (group_slots : List (Option ℕ)) (place : ℕ) (row : LineOrder)
    (group_slot : Option ℕ) (same : length group_slots ≡ length rows) (h : place < length rows)
    (row_is : row ≡ get_or rows place row) (group_slot_is : group_slot ≡ get_or group_slots place group_slot) where
  pub slotted-next : slotted slot (take (place + 1) rows) (take (place + 1) group_slots)
      ≡ slotted slot (take place rows) (take place group_slots) ++ slotted slot (row ∷ []) (group_slot ∷ [])
  slotted-next =
      let rows_are : take (place + 1) rows ≡ take place rows ++ row ∷ [] = take_more rows place row h
      ∙ ap (λ r. take place rows ++ r ∷ []) (sym row_is) in
      let group_slots_are : take (place + 1) group_slots ≡ take place group_slots ++ group_slot ∷ [] =
      take_more group_slots place group_slot (omega (arith, same, h))
      ∙ ap (λ m. take place group_slots ++ m ∷ []) (sym group_slot_is) in
      ap (λ rs. slotted slot rs (take (place + 1) group_slots)) rows_are
      ∙ ap (slotted slot (take place rows ++ row ∷ [])) group_slots_are
      ∙ slotted-append slot (take place rows) (row ∷ []) (take place group_slots) (group_slot ∷ [])
      (same_take rows group_slots place same (omega (arith, h)))

  pub size-next : (agg : Agg)
      → aggregate_size agg (rows_with_slots (take (place + 1) rows) (take (place + 1) group_slots))
      ≡ aggregate_size agg (rows_with_slots (take place rows) (take place group_slots))
      + aggregate_size agg (rows_with_slots (row ∷ []) (group_slot ∷ []))
  size-next agg =
      let rows_are : take (place + 1) rows ≡ take place rows ++ row ∷ [] = take_more rows place row h
      ∙ ap (λ r. take place rows ++ r ∷ []) (sym row_is) in
      let group_slots_are : take (place + 1) group_slots ≡ take place group_slots ++ group_slot ∷ [] =
      take_more group_slots place group_slot (omega (arith, same, h))
      ∙ ap (λ m. take place group_slots ++ m ∷ []) (sym group_slot_is) in
      (λ i. aggregate_size agg (rows_with_slots (rows_are i) (group_slots_are i)))
      ∙ size-append agg (take place rows) (row ∷ []) (take place group_slots) (group_slot ∷ [])
      (same_take rows group_slots place same (omega (arith, h)))

-- the first rows are no larger than all
pub size-take : (agg : Agg) (rows : List LineOrder) (group_slots : List (Option ℕ)) (n : ℕ)
    → length group_slots ≡ length rows → n ≤ length rows
    → aggregate_size agg (rows_with_slots (take n rows) (take n group_slots)) ≤ aggregate_size agg
    (rows_with_slots rows group_slots)
size-take agg rows group_slots n same h =
    let split = size-append agg (take n rows) (drop n rows) (take n group_slots) (drop n group_slots)
    (same_take rows group_slots n same h) in
    let whole : aggregate_size agg
    (rows_with_slots (take n rows ++ drop n rows) (take n group_slots ++ drop n group_slots))
    ≡ aggregate_size agg (rows_with_slots rows group_slots) =
    (λ i. aggregate_size agg (rows_with_slots (take-append-drop n rows i) (take-append-drop n group_slots i))) in
    omega (arith, split, whole)

-- ---- room
pub can_add-fits : (tally : Tally) (count size : ℕ) → can_add tally count size ≡ true → (tally.count + count < 2 ^ 63)
    × (nat_abs tally.sum + size < 2 ^ 63)
can_add-fits tally count size can = (grind (arith, nat_tests, can), grind (arith, nat_tests, can))

pub fits-can_add : (tally : Tally) (count size : ℕ) → tally.count + count < 2 ^ 63 → nat_abs tally.sum + size < 2 ^ 63
    → can_add tally count size ≡ true
fits-can_add tally count size few small = grind (arith, nat_tests)

pub size_one : (agg : Agg) (row : LineOrder) → aggregate_size agg (row ∷ []) ≡ nat_abs (aggregated agg row)
size_one agg row = omega (arith, sum_by-cons (λ row. nat_abs (aggregated agg row)) row [])

-- ---- a column
-- nothing changes where the row has no group_slot
pub CountsIn-none : (agg : Agg) (row : LineOrder) (column : List Tally)
    → CountsIn agg (row ∷ []) (None ∷ []) column column
CountsIn-none agg row column slot before reads = reads
    ∙ ap (λ rows. tally_of (map (aggregated agg) rows)) (sym (append-nil before))

pub CountsIn-one : (agg : Agg) (row : LineOrder) (slot : ℕ) (old : List Tally) → slot < length old
    → CountsIn agg (row ∷ []) (Some slot ∷ []) old
    (slice_set old slot (tally_after (tally_at old slot) (aggregated agg row)))
CountsIn-one agg row slot old h other before reads =
    let after = tally_after (tally_at old slot) (aggregated agg row) in
    elim (slot == other) as
    (λ b. (slot == other) ≡ b
    → tally_at (slice_set old slot after) other ≡ tally_of (map (aggregated agg) (before ++ cond b (row ∷ []) []))) [
      | true ↦ λ e.
          let same : other ≡ slot = grind (arith, nat_tests) in
          ap (tally_at (slice_set old slot after)) same
          ∙ get_or-set_same old slot after no_tally h
          ∙ ap (λ tally. tally_after tally (aggregated agg row)) (ap (tally_at old) (sym same) ∙ reads)
          ∙ sym (tally_of-after (map (aggregated agg) before) (aggregated agg row))
          ∙ ap tally_of (sym (map-append (aggregated agg) before (row ∷ [])))
      | false ↦ λ e.
          let apart : other ≢ slot = grind (arith, nat_tests) in
          get_or-set_other old slot other after no_tally apart
          ∙ reads
          ∙ ap (λ rows. tally_of (map (aggregated agg) rows)) (sym (append-nil before))
    ] refl

module _ (agg : Agg) (rows : List LineOrder) (group_slots : List (Option ℕ)) (place : ℕ) (row : LineOrder)
    (group_slot : Option ℕ) (same : length group_slots ≡ length rows) (h : place < length rows)
    (row_is : row ≡ get_or rows place row) (group_slot_is : group_slot ≡ get_or group_slots place group_slot) where
  pub HasRoom-next : (old now : List Tally) → HasRoom agg old rows group_slots
      → IsBounded agg (take place rows) (take place group_slots) old now → length now ≡ length old
      → HasRoom agg now (row ∷ []) (group_slot ∷ [])
  HasRoom-next old now room bounded long =
      let next = size-next 0 rows group_slots place row group_slot same h row_is group_slot_is agg in
      let whole = size-take agg rows group_slots (place + 1) same (omega (arith, h)) in
      record {
        small = omega (arith, room.small, next, whole);
        each = λ k slot here. each k slot here next whole;
      }
    where
      each : (k slot : ℕ) → slice_get (group_slot ∷ []) k ≡ Some (Some slot)
          → aggregate_size agg (rows_with_slots (take (place + 1) rows) (take (place + 1) group_slots))
          ≡ aggregate_size agg (rows_with_slots (take place rows) (take place group_slots))
          + aggregate_size agg (rows_with_slots (row ∷ []) (group_slot ∷ []))
          → aggregate_size agg (rows_with_slots (take (place + 1) rows) (take (place + 1) group_slots)) ≤ aggregate_size
          agg
          (rows_with_slots rows group_slots)
          → (slot < length now)
          × (can_add (tally_at now slot) 1 (aggregate_size agg (rows_with_slots (row ∷ []) (group_slot ∷ []))) ≡ true)
      each zero slot here next whole =
          let is : group_slot ≡ Some slot = cc here in
          let at : slice_get group_slots place ≡ Some (Some slot) =
          slice_get-get_or group_slots place group_slot (omega (arith, same, h))
          ∙ ap Some (sym group_slot_is ∙ is) in
          let given = room.each place slot at in
          let fits = can_add-fits (tally_at old slot) _ _ given.1 in
          let few = length-take-le place rows (omega (arith, h)) in (
            omega (arith, given.0, long),
            fits-can_add (tally_at now slot) 1 (aggregate_size agg (rows_with_slots (row ∷ []) (group_slot ∷ [])))
                (omega (arith, (bounded slot).0, fits.0, few, h))
                (omega (arith, (bounded slot).1, fits.1, next, whole)),
          )
      each (suc k) slot here next whole = absurd (cc here)

  pub IsBounded-next : (old now new : List Tally) → IsBounded agg (take place rows) (take place group_slots) old now
      → IsBounded agg (row ∷ []) (group_slot ∷ []) now new
      → IsBounded agg (take (place + 1) rows) (take (place + 1) group_slots) old new
  IsBounded-next old now new bounded next slot =
      let size = size-next 0 rows group_slots place row group_slot same h row_is group_slot_is agg in
      let few = length-take-le place rows (omega (arith, h)) in
      let more = length-take-le (place + 1) rows (omega (arith, h)) in
      (omega (arith, (bounded slot).0, (next slot).0, few, more), omega (arith, (bounded slot).1, (next slot).1, size))

  pub CountsIn-next : (old now new : List Tally) → CountsIn agg (take place rows) (take place group_slots) old now
      → CountsIn agg (row ∷ []) (group_slot ∷ []) now new
      → CountsIn agg (take (place + 1) rows) (take (place + 1) group_slots) old new
  CountsIn-next old now new counted next slot before reads =
      next slot (before ++ slotted slot (take place rows) (take place group_slots)) (counted slot before reads)
      ∙ ap (λ all. tally_of (map (aggregated agg) all))
      (append_assoc before (slotted slot (take place rows) (take place group_slots))
      (slotted slot (row ∷ []) (group_slot ∷ []))
      ∙ ap (λ more. before ++ more)
      (sym (slotted-next slot rows group_slots place row group_slot same h row_is group_slot_is)))

-- nothing is counted where the row has no slot
pub IsBounded-none : (agg : Agg) (row : LineOrder) (column : List Tally)
    → IsBounded agg (row ∷ []) (None ∷ []) column column
IsBounded-none agg row column slot = (omega arith, omega arith)

after-bounded : (tally : Tally) (number : ℤ) → ((tally_after tally number).count ≤ tally.count + 1)
    × (nat_abs (tally_after tally number).sum ≤ nat_abs tally.sum + nat_abs number)
after-bounded tally number =
    elim (tally.count == 0) as
    (λ b. ((cond b (tally_of (number ∷ [])) (tally_with tally number)).count ≤ tally.count + 1)
    × (nat_abs (cond b (tally_of (number ∷ [])) (tally_with tally number)).sum ≤ nat_abs tally.sum + nat_abs number)) [
      | true ↦ (
        omega arith,
        omega (arith, nat_abs-total (λ (z : ℤ). z) (number ∷ []), sum_by-cons (λ (z : ℤ). nat_abs z) number []),
      )
      | false ↦ (omega arith, nat_abs-+ℤ tally.sum number)
    ]

-- what room for one slotted row says
module _ (agg : Agg) (column : List Tally) (row : LineOrder) (group_slot : Option ℕ)
    (room : HasRoom agg column (row ∷ []) (group_slot ∷ [])) (slot : ℕ) (is : group_slot ≡ Some slot) where
  size_here : aggregate_size agg (rows_with_slots (row ∷ []) (group_slot ∷ [])) ≡ nat_abs (aggregated agg row)
  size_here = ap (λ m. aggregate_size agg (rows_with_slots (row ∷ []) (m ∷ []))) is ∙ size_one agg row

  pub slot_in : slot < length column
  slot_in = (room.each 0 slot (ap Some is)).0

  fits_here : ((tally_at column slot).count + 1 < 2 ^ 63)
      × (nat_abs (tally_at column slot).sum + nat_abs (aggregated agg row) < 2 ^ 63)
  fits_here =
      let fits = can_add-fits (tally_at column slot) _ _ (room.each 0 slot (ap Some is)).1 in
      (fits.0, omega (arith, fits.1, size_here))

  pub number_room : FitsSigned w64 (aggregated agg row)
  number_room = FitsSigned-small (aggregated agg row) (omega (arith, room.small, size_here))

  module _ (tally : Tally) (read : tally ≡ get_or column slot tally) where
    tally_is : tally ≡ tally_at column slot
    tally_is = read ∙ get_or_default column slot tally no_tally slot_in

    pub count_room : tally.count + 1 < 2 ^ 63
    count_room = subst (λ (t : Tally). t.count + 1 < 2 ^ 63) (sym tally_is) fits_here.0

    pub sum_room : FitsSigned w64 (tally.sum +ℤ aggregated agg row)
    sum_room = subst (λ (t : Tally). FitsSigned w64 (t.sum +ℤ aggregated agg row)) (sym tally_is)
        (FitsSigned-small _ (omega (arith, nat_abs-+ℤ (tally_at column slot).sum (aggregated agg row), fits_here.1)))

    pub counted_here : CountsIn agg (row ∷ []) (group_slot ∷ []) column
        (slice_set column slot (tally_after tally (aggregated agg row)))
    counted_here =
        subst (λ m. CountsIn agg (row ∷ []) (m ∷ []) column
        (slice_set column slot (tally_after tally (aggregated agg row)))) (sym is)
        (subst (λ t. CountsIn agg (row ∷ []) (Some slot ∷ []) column
        (slice_set column slot (tally_after t (aggregated agg row)))) (sym tally_is)
        (CountsIn-one agg row slot column slot_in))

    pub bounded_here : IsBounded agg (row ∷ []) (group_slot ∷ []) column
        (slice_set column slot (tally_after tally (aggregated agg row)))
    bounded_here =
        subst (λ t. IsBounded agg (row ∷ []) (group_slot ∷ []) column
        (slice_set column slot (tally_after t (aggregated agg row)))) (sym tally_is) (λ other.
        let after = tally_after (tally_at column slot) (aggregated agg row) in
        let bound = after-bounded (tally_at column slot) (aggregated agg row) in
        elim (slot == other) as
        (λ b. (slot == other) ≡ b
        → ((tally_at (slice_set column slot after) other).count ≤ (tally_at column other).count + 1)
        × (nat_abs (tally_at (slice_set column slot after) other).sum ≤ nat_abs (tally_at column other).sum
        + aggregate_size agg (rows_with_slots (row ∷ []) (group_slot ∷ [])))) [
          | true ↦ λ e.
              let same : slot ≡ other = grind (arith, nat_tests) in
              subst (λ at. ((tally_at (slice_set column slot after) at).count ≤ (tally_at column at).count + 1)
              × (nat_abs (tally_at (slice_set column slot after) at).sum ≤ nat_abs (tally_at column at).sum
              + aggregate_size agg (rows_with_slots (row ∷ []) (group_slot ∷ [])))) same
              (subst (λ (now : Tally). (now.count ≤ (tally_at column slot).count + 1)
              × (nat_abs now.sum ≤ nat_abs (tally_at column slot).sum
              + aggregate_size agg (rows_with_slots (row ∷ []) (group_slot ∷ []))))
              (sym (get_or-set_same column slot after no_tally slot_in))
              (bound.0, omega (arith, bound.1, size_here)))
          | false ↦ λ e.
              let apart : other ≢ slot = grind (arith, nat_tests) in
              subst (λ (now : Tally). (now.count ≤ (tally_at column other).count + 1)
              × (nat_abs now.sum ≤ nat_abs (tally_at column other).sum
              + aggregate_size agg (rows_with_slots (row ∷ []) (group_slot ∷ []))))
              (sym (get_or-set_other column slot other after no_tally apart))
              (omega arith, omega arith)
        ] refl)
