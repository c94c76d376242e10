-- Cells in a table by the numbers of their keys.
use Rattle.std.proofs.Common.{◌≡◌, ◌∙◌, sym, ap, refl, subst, ℕ, zero, suc, ◌+◌, ◌==◌, ◌<◌, ◌≤◌, Bool, true, false}
use Rattle.std.proofs.Common.{cond, List, [], ◌∷◌, length, get_or, set, get_or-set_same, length-set, All, Option, Some}
use Rattle.std.proofs.Common.{None, arith}
use Rattle.std.proofs.lemmas.Bool.Decides.{nat_tests}
use Rattle.std.proofs.lemmas.List.Elements.{All-cons, All-nil}
use Rattle.lattice.specs.declared.view.View.{View}
use Rattle.cuboid_cells.specs.declared.cell.Cell.{Cell}
use Rattle.cuboid_cells.specs.Cells.{AreAscending, CellFits, cell_at, key_as_number}
use Rattle.cuboid_cells.specs.Merges.{IsMergeOf, merged, merged_if_any}
use Rattle.cuboid_upkeep.specs.Steps.{IsGood}
use Rattle.cuboid_upkeep.specs.declared.member_codes.ViewMembers.{ViewMembers}
use Rattle.cuboid_upkeep.specs.Numbers.{key_place}
use Rattle.cuboid_upkeep.specs.Slots.{SlotsHaveCells, HasNumber, PassesAt, TakesAt, cells_in, slot_is_used, taken, used}
use Rattle.cuboid_upkeep.proofs.Existing.{Climbs, ascends, none_at}
use Rattle.cuboid_upkeep.proofs.Found.{none_else, other_key, own_key, same_key}
use Rattle.cuboid_upkeep.proofs.Ascending.{Follow, keys_follow}

-- a cell that groups rows
pub in_use : (cell : Cell) → 1 ≤ cell.count → slot_is_used cell ≡ true
in_use cell some = grind (arith, nat_tests, some)

pub not_free : (cell : Cell) → slot_is_used cell ≡ true → 1 ≤ cell.count
not_free cell e = grind (arith, nat_tests, e)

pub is_free : (cell : Cell) → cell.count ≡ 0 → slot_is_used cell ≡ false
is_free cell none = grind (arith, nat_tests, none)

-- a slot that has not the cell of a key is passed over
passed : (key : ℕ) (slot : Cell) (slots : List Cell) → (slot_is_used slot ≡ true → key_as_number slot.key ≡ key → ⊥)
    → cell_at key (used (slot ∷ slots)) ≡ cell_at key (used slots)
passed key slot slots apart =
    (elim (slot_is_used slot) as
    (λ b. slot_is_used slot ≡ b → cell_at key (cond b (slot ∷ used slots) (used slots)) ≡ cell_at key (used slots)) [
      | true ↦ λ e. ap (λ (b : Bool). cond b (Some slot) (cell_at key (used slots)))
          (other_key (key_as_number slot.key) key (apart e))
      | false ↦ λ e. refl
    ]) refl

module _ (view : View) (members : ViewMembers) (no_modes : view.ship_mode ≡ false) where
  -- the numbers of two cells of the view
  pub cells_follow : (m n : ℕ) (one other : Cell) → HasNumber view members m one → HasNumber view members n other
      → Follow m n (key_as_number one.key) (key_as_number other.key)
  cells_follow m n one other at also =
      let modes : one.key.ship_mode ≡ other.key.ship_mode =
      at.good.is_cell.key.ship_mode.1 no_modes ∙ sym (also.good.is_cell.key.ship_mode.1 no_modes) in
      subst (λ (p : ℕ). Follow p n (key_as_number one.key) (key_as_number other.key)) at.place_is
      (subst (λ (p : ℕ). Follow (key_place members one.key) p (key_as_number one.key) (key_as_number other.key))
      also.place_is
      (keys_follow view members one.key other.key at.good.is_cell.key also.good.is_cell.key at.good.fits.key
      also.good.fits.key at.lies also.lies modes))

  -- the cells in use ascend
  climb : (n low : ℕ) (slots : List Cell)
      → ((m : ℕ) (cell : Cell) → n ≤ m → HasNumber view members m cell → low ≤ key_as_number cell.key)
      → SlotsHaveCells view members n slots
      → Climbs low (used slots)
  climb n low [] above slots = tt
  climb n low (slot ∷ rest) above slots =
      (elim (slot_is_used slot) as (λ b. slot_is_used slot ≡ b → Climbs low (cond b (slot ∷ used rest) (used rest))) [
        | true ↦ λ e. (
          above n slot (omega arith) (slots.0 e),
          climb (suc n) (key_as_number slot.key + 1) rest
              (λ m cell after at.
              (let less : key_as_number slot.key < key_as_number cell.key =
              (cells_follow n m slot cell (slots.0 e) at).0
              (omega (arith, after)) in omega (arith, less)))
              slots.1,
        )
        | false ↦ λ e. climb (suc n) low rest (λ m cell after at. above m cell (omega (arith, after)) at) slots.1
      ]) refl

  pub used_ascend : (n : ℕ) (slots : List Cell) → SlotsHaveCells view members n slots → AreAscending (used slots)
  used_ascend n slots are = ascends 0 (used slots) (climb n 0 slots (λ m cell after at. omega arith) are)

  pub used_good : (n : ℕ) (slots : List Cell) → SlotsHaveCells view members n slots → All (IsGood view) (used slots)
  used_good n [] slots = All-nil (IsGood view)
  used_good n (slot ∷ rest) slots =
      (elim (slot_is_used slot) as
      (λ b. slot_is_used slot ≡ b → All (IsGood view) (cond b (slot ∷ used rest) (used rest))) [
        | true ↦ λ e. All-cons (IsGood view) slot (used rest) (slots.0 e).good (used_good (suc n) rest slots.1)
        | false ↦ λ e. used_good (suc n) rest slots.1
      ]) refl

  -- the slot at a place
  pub slot_at : (n place : ℕ) (slots : List Cell) (d : Cell) → SlotsHaveCells view members n slots
      → place < length slots
      → slot_is_used (get_or slots place d) ≡ true
      → HasNumber view members (n + place) (get_or slots place d)
  slot_at n place [] d slots within e = absurd (omega (arith, within))
  slot_at n zero (slot ∷ rest) d slots within e =
      subst (λ (m : ℕ). HasNumber view members m slot) (omega arith) (slots.0 e)
  slot_at n (suc place) (slot ∷ rest) d slots within e =
      subst (λ (m : ℕ). HasNumber view members m (get_or rest place d)) (omega arith)
      (slot_at (suc n) place rest d slots.1 (omega (arith, within)) e)

  -- another cell at a place
  pub slots_set : (n place : ℕ) (slots : List Cell) (cell : Cell) → SlotsHaveCells view members n slots
      → place < length slots
      → HasNumber view members (n + place) cell
      → SlotsHaveCells view members n (set slots place cell)
  slots_set n place [] cell slots within at = absurd (omega (arith, within))
  slots_set n zero (slot ∷ rest) cell slots within at =
      (λ e. subst (λ (m : ℕ). HasNumber view members m cell) (omega arith) at, slots.1)
  slots_set n (suc place) (slot ∷ rest) cell slots within at = (
    slots.0,
    slots_set (suc n) place rest cell slots.1 (omega (arith, within))
        (subst (λ (m : ℕ). HasNumber view members m cell) (omega arith) at),
  )

  -- the cell of a key is that of its slot, if it is in use
  pub found_at : (n place : ℕ) (slots : List Cell) (cell d : Cell) → SlotsHaveCells view members n slots
      → place < length slots → HasNumber view members (n + place) cell
      → cell_at (key_as_number cell.key) (used slots) ≡ cond (slot_is_used (get_or slots place d))
      (Some (get_or slots place d))
      None
  found_at n place [] cell d slots within at = absurd (omega (arith, within))
  found_at n zero (slot ∷ rest) cell d slots within at =
      (elim (slot_is_used slot) as
      (λ b. slot_is_used slot ≡ b → cell_at (key_as_number cell.key) (cond b (slot ∷ used rest) (used rest))
      ≡ cond b (Some slot) None) [
        | true ↦ λ e.
            (let same : key_as_number slot.key ≡ key_as_number cell.key =
            (cells_follow n (n + 0) slot cell (slots.0 e) at).1
            (omega arith) in
            ap (λ (b : Bool). cond b (Some slot) (cell_at (key_as_number cell.key) (used rest)))
            (own_key (key_as_number slot.key) (key_as_number cell.key) same))
        | false ↦ λ e.
            none_at (key_as_number cell.key + 1) (key_as_number cell.key) (used rest)
            (climb (suc n) (key_as_number cell.key + 1) rest
            (λ m one after is.
            (let less : key_as_number cell.key < key_as_number one.key = (cells_follow (n + 0) m cell one at is).0
            (omega (arith, after)) in omega (arith, less))) slots.1)
            (omega arith)
      ]) refl
  found_at n (suc place) (slot ∷ rest) cell d slots within at =
      let after =
      found_at (suc n) place rest cell d slots.1 (omega (arith, within))
      (subst (λ (m : ℕ). HasNumber view members m cell) (omega arith) at) in
      (elim (slot_is_used slot) as
      (λ b. slot_is_used slot ≡ b → cell_at (key_as_number cell.key) (cond b (slot ∷ used rest) (used rest))
      ≡ cond (slot_is_used (get_or rest place d)) (Some (get_or rest place d)) None) [
        | true ↦ λ e.
            (let less : key_as_number slot.key < key_as_number cell.key =
            (cells_follow n (n + suc place) slot cell (slots.0 e) at).0 (omega arith) in
            ap (λ (b : Bool). cond b (Some slot) (cell_at (key_as_number cell.key) (used rest)))
            (other_key (key_as_number slot.key) (key_as_number cell.key) (λ same. omega (arith, same, less)))
            ∙ after)
        | false ↦ λ e. after
      ]) refl

-- a slot that is in use has the number of its place
pub own_slot : (view : View) (members : ViewMembers) → view.ship_mode ≡ false
    → (slots : List Cell) (place : ℕ) (slot : Cell) → SlotsHaveCells view members 0 slots → place < length slots
    → slot ≡ get_or slots place slot → slot_is_used slot ≡ true → HasNumber view members place slot
own_slot view members no_modes slots place slot are within is e =
    subst (λ (m : ℕ). HasNumber view members m slot) (omega arith)
    (subst (λ (c : Cell). HasNumber view members (0 + place) c) (sym is)
    (slot_at view members no_modes 0 place slots slot are within (ap slot_is_used (sym is) ∙ e)))

-- the cell of another key stays
pub others_stay : (key place : ℕ) (slots : List Cell) (cell d : Cell) → place < length slots
    → (slot_is_used (get_or slots place d) ≡ true → key_as_number (get_or slots place d).key ≡ key → ⊥)
    → (key_as_number cell.key ≡ key → ⊥)
    → cell_at key (used (set slots place cell)) ≡ cell_at key (used slots)
others_stay key place [] cell d within old new = absurd (omega (arith, within))
others_stay key zero (slot ∷ rest) cell d within old new = passed key cell rest (λ e. new)
    ∙ sym (passed key slot rest old)
others_stay key (suc place) (slot ∷ rest) cell d within old new =
    let after = others_stay key place rest cell d (omega (arith, within)) old new in
    (elim (slot_is_used slot) as
    (λ b. cell_at key (cond b (slot ∷ used (set rest place cell)) (used (set rest place cell)))
    ≡ cell_at key (cond b (slot ∷ used rest) (used rest))) [
      | true ↦ ap (λ (o : Option Cell). cond (key_as_number slot.key == key) (Some slot) o) after
      | false ↦ after
    ])

either_taken : (slot cell : Cell) (b : Bool)
    → Some (cond b (merged slot cell) cell) ≡ merged_if_any (cond b (Some slot) None) (Some cell)
either_taken slot cell true = refl
either_taken slot cell false = refl

-- a cell was taken in at its number
module _ (view : View) (members : ViewMembers) (no_modes : view.ship_mode ≡ false) (old : List Cell) (place : ℕ)
    (cell : Cell) (new : List Cell)
    (slots : SlotsHaveCells view members 0 old) (within : place < length old) (at : HasNumber view members place cell)
    (takes : TakesAt old place cell new) where
  abbrev slot : Cell
  slot = takes.slot

  from_none : (c : Cell) → HasNumber view members place c → HasNumber view members (0 + place) c
  from_none c is = subst (λ (m : ℕ). HasNumber view members m c) (omega arith) is

  slot_own : slot_is_used slot ≡ true → HasNumber view members place slot
  slot_own e =
      subst (λ (m : ℕ). HasNumber view members m slot) (omega arith)
      (subst (λ (c : Cell). HasNumber view members (0 + place) c) (sym takes.slot_is)
      (slot_at view members no_modes 0 place old slot slots within (ap slot_is_used (sym takes.slot_is) ∙ e)))

  taken_at : HasNumber view members place (taken slot cell)
  taken_at =
      (elim (slot_is_used slot) as (λ b. slot_is_used slot ≡ b → CellFits (cond b (merged slot cell) cell)
      → HasNumber view members place (cond b (merged slot cell) cell)) [
        | true ↦ λ e fits.
            (let own = slot_own e in record {
              lies = own.lies;
              place_is = own.place_is;
              good = record {
                is_cell = record { key = own.good.is_cell.key; count = omega (arith, own.good.is_cell.count) };
                fits = fits;
              };
            })
        | false ↦ λ e fits. at
      ]) refl (takes.fits at.good.fits)

  set_slots : SlotsHaveCells view members 0 (set old place (taken slot cell))
  set_slots =
      slots_set view members no_modes 0 place old (taken slot cell) slots within (from_none (taken slot cell) taken_at)

  pub slots_then : SlotsHaveCells view members 0 new
  slots_then = subst (SlotsHaveCells view members 0) (sym takes.is) set_slots

  own_number : key_as_number (taken slot cell).key ≡ key_as_number cell.key
  own_number = (cells_follow view members no_modes place place (taken slot cell) cell taken_at at).1 refl

  own_then : cell_at (key_as_number cell.key) (used (set old place (taken slot cell))) ≡ Some (taken slot cell)
  own_then =
      let set_within : place < length (set old place (taken slot cell)) =
      omega (arith, within, length-set old place (taken slot cell)) in
      let here : get_or (set old place (taken slot cell)) place slot ≡ taken slot cell =
      get_or-set_same old place (taken slot cell) slot within in
      let some : slot_is_used (get_or (set old place (taken slot cell)) place slot) ≡ true = ap slot_is_used here
      ∙ in_use (taken slot cell) taken_at.good.is_cell.count in
      found_at view members no_modes 0 place (set old place (taken slot cell)) cell slot set_slots set_within
      (from_none cell at)
      ∙ ap (λ (b : Bool). cond b (Some (get_or (set old place (taken slot cell)) place slot)) None) some
      ∙ ap Some here

  own_before : cell_at (key_as_number cell.key) (used old) ≡ cond (slot_is_used slot) (Some slot) None
  own_before =
      found_at view members no_modes 0 place old cell slot slots within (from_none cell at)
      ∙ ap (λ (c : Cell). cond (slot_is_used c) (Some c) None) (sym takes.slot_is)

  by_key : (key : ℕ) → cell_at key (used (set old place (taken slot cell))) ≡ merged_if_any (cell_at key (used old))
      (cell_at key (cell ∷ []))
  by_key key =
      (elim (key_as_number cell.key == key) as (λ b. (key_as_number cell.key == key) ≡ b
      → cell_at key (used (set old place (taken slot cell))) ≡ merged_if_any (cell_at key (used old))
      (cond b (Some cell) None)) [
        | true ↦ λ e.
            (let own : key_as_number cell.key ≡ key = same_key (key_as_number cell.key) key e in
            subst (λ (k : ℕ). cell_at k (used (set old place (taken slot cell)))
            ≡ merged_if_any (cell_at k (used old)) (Some cell)) own
            (own_then ∙ either_taken slot cell (slot_is_used slot)
            ∙ ap (λ (o : Option Cell). merged_if_any o (Some cell)) (sym own_before)))
        | false ↦ λ e.
            (let apart : key_as_number cell.key ≡ key
            → ⊥ = λ same. absurd (cc (e, own_key (key_as_number cell.key) key same)) in
            others_stay key place old (taken slot cell) slot within
            (λ used_here same. apart
            (sym ((cells_follow view members no_modes place place slot cell
            (slot_own (ap slot_is_used takes.slot_is ∙ used_here)) at).1 refl)
            ∙ ap (λ (c : Cell). key_as_number c.key) takes.slot_is ∙ same))
            (λ same. apart (sym own_number ∙ same))
            ∙ sym (none_else (cell_at key (used old))))
      ]) refl

  pub merge_then : IsMergeOf (cells_in view old) (record { view = view; cells = cell ∷ [] }) (cells_in view new)
  merge_then = record {
    view = refl;
    cells = record {
      ascending = used_ascend view members no_modes 0 new slots_then;
      by_key = λ key. ap (λ (l : List Cell). cell_at key (used l)) takes.is ∙ by_key key;
    };
  }

-- the slot of a cell's number is in use
module _ (view : View) (members : ViewMembers) (no_modes : view.ship_mode ≡ false) (old : List Cell) (place : ℕ)
    (cell : Cell)
    (slots : SlotsHaveCells view members 0 old) (within : place < length old) (at : HasNumber view members place cell)
    (past : PassesAt old place cell) where
  pub past_is : cell_at (key_as_number cell.key) (used old) ≡ Some past.slot
  past_is =
      found_at view members no_modes 0 place old cell past.slot slots within
      (subst (λ (m : ℕ). HasNumber view members m cell) (omega arith) at)
      ∙ ap (λ (c : Cell). cond (slot_is_used c) (Some c) None) (sym past.slot_is)
      ∙ ap (λ (b : Bool). cond b (Some past.slot) None) past.in_use

  pub past_key : key_as_number past.slot.key ≡ key_as_number cell.key
  past_key =
      let own = slot_at view members no_modes 0 place old past.slot slots within
      (ap slot_is_used (sym past.slot_is) ∙ past.in_use) in
      (cells_follow view members no_modes place place past.slot cell
      (subst (λ (m : ℕ). HasNumber view members m past.slot) (omega arith)
      (subst (λ (c : Cell). HasNumber view members (0 + place) c) (sym past.slot_is) own)) at).1 refl
