-- A table of cells.
use Rattle.std.proofs.Common.{◌≡◌, ◌⊎◌, ◌∙◌, inl, inr, sym, ap, refl, subst, ℕ, zero, suc, ◌+◌, ◌-◌, ◌<◌, Bool, false}
use Rattle.std.proofs.Common.{cond, List, [], ◌∷◌, ◌++◌, take, length, length-set, get_or, get_or-set_same}
use Rattle.std.proofs.Common.{get_or-set_other, set, arith}
use Rattle.std.specs.Prelude.{replicate}
use Rattle.std.proofs.lemmas.Bool.{cases_eq}
use Rattle.std.proofs.lemmas.List.Sums.{count_by-le-length, length-filter}
use Rattle.cube_model.specs.declared.rows.DimRows.{DimRows}
use Rattle.cube_model.specs.declared.rows.LineOrder.{LineOrder}
use Rattle.group_numbers.specs.Rows.{row_at}
use Rattle.lattice.specs.declared.view.View.{View}
use Rattle.cuboid_cells.specs.declared.cell.Cell.{Cell}
use Rattle.cuboid_cells.specs.declared.key.Key.{Key}
use Rattle.cuboid_cells.specs.Cells.{AreProperCells}
use Rattle.cuboid_upkeep.specs.declared.member_codes.ViewMembers.{ViewMembers}
use Rattle.cuboid_upkeep.specs.declared.table.CellTable.{CellTable}
use Rattle.cuboid_upkeep.specs.Growing.{IsTableOver}
use Rattle.cuboid_upkeep.specs.Keys.{AreRowKeys, AreRowNumbers, IsKeyOfRow, IsNumberOfRow}
use Rattle.cuboid_upkeep.specs.Slots.{SlotsHaveCells, cells_in, slot_is_used, used}
use Rattle.cuboid_upkeep.proofs.Slots.{used_ascend, used_good}

pub table_proper : (dimensions : DimRows) (table : CellTable) → IsTableOver dimensions table
    → AreProperCells (cells_in table.view table.slots.items)
table_proper dimensions table is =
    let good = used_good table.view table.members is.no_modes 0 table.slots.items is.slots in record {
      rules = record {
        few = omega (
          arith,
          length-filter slot_is_used table.slots.items,
          count_by-le-length slot_is_used table.slots.items,
          is.size,
          is.few.four,
        );
        each = λ k d within. (good k d within).is_cell;
        ascending = used_ascend table.view table.members is.no_modes 0 table.slots.items is.slots;
      };
      fit = λ k d within. (good k d within).fits;
    }

abbrev none_of : List Cell
none_of = []

-- free slots
module _ (free : Cell) (none : slot_is_used free ≡ false) where
  pub none_used : (n : ℕ) → used (replicate n free) ≡ []
  none_used zero = refl
  none_used (suc n) = ap (λ (b : Bool). cond b (free ∷ used (replicate n free)) (used (replicate n free))) none
      ∙ none_used n

  pub all_free : (view : View) (members : ViewMembers) (from n : ℕ)
      → SlotsHaveCells view members from (replicate n free)
  all_free view members from zero = tt
  all_free view members from (suc n) = (λ e. absurd (cc (e, none)), all_free view members (suc from) n)

take_none : (n : ℕ) → take n none_of ≡ []
take_none zero = refl
take_none (suc n) = refl

-- what a resize makes of no slot
module _ (size count : ℕ) (old new : List Cell) (free : Cell) (empty : count ≡ 0) (none : old ≡ [])
    (is : new ≡ take size old ++ replicate (size - count) free) (unused : slot_is_used free ≡ false) where
  resized : new ≡ replicate size free
  resized =
      let many : size - count ≡ size = omega (arith, empty) in
      is ∙ ap (λ (l : List Cell). take size l ++ replicate (size - count) free) none
      ∙ ap (λ (l : List Cell). l ++ replicate (size - count) free) (take_none size)
      ∙ ap (λ (n : ℕ). replicate n free) many

  pub resized_free : used new ≡ []
  resized_free = ap used resized ∙ none_used free unused size

  pub resized_slots : (view : View) (members : ViewMembers) → SlotsHaveCells view members 0 new
  resized_slots view members =
      subst (SlotsHaveCells view members 0) (sym resized) (all_free free unused view members 0 size)

-- one key more
pub one_key_more : (dimensions : DimRows) (modes : List (List ℕ)) (view : View) (members : ViewMembers)
    (rows : List LineOrder) (place : ℕ)
    (keys : List Key) (key : Key)
    → AreRowKeys dimensions modes view members rows place keys
    → IsKeyOfRow dimensions modes view members (row_at rows place) key
    → AreRowKeys dimensions modes view members rows (place + 1) (set keys place key)
one_key_more dimensions modes view members rows place keys key so_far own = record {
  many = length-set keys place key ∙ so_far.many;
  each = λ k d before inside. by k d before (omega (arith, inside, length-set keys place key)) (cases_eq k place);
}
  where
    by : (k : ℕ) (d : Key) → k < place + 1 → k < length keys → (k ≡ place) ⊎ (k ≡ place → ⊥)
        → IsKeyOfRow dimensions modes view members (row_at rows k) (get_or (set keys place key) k d)
    by k d before inside (inl same) =
        subst (λ (n : ℕ). IsKeyOfRow dimensions modes view members (row_at rows n) (get_or (set keys place key) n d))
        (sym same)
        (subst (λ (one : Key). IsKeyOfRow dimensions modes view members (row_at rows place) one)
        (sym (get_or-set_same keys place key d (omega (arith, inside, same)))) own)
    by k d before inside (inr apart) =
        subst (λ (one : Key). IsKeyOfRow dimensions modes view members (row_at rows k) one)
        (sym (get_or-set_other keys place k key d apart))
        (so_far.each k d (omega (arith, before, apart)) inside)

-- one number more
pub one_number_more : (dimensions : DimRows) (view : View) (members : ViewMembers) (rows : List LineOrder) (place : ℕ)
    (numbers : List ℕ) (number : ℕ)
    → AreRowNumbers dimensions view members rows place numbers
    → IsNumberOfRow dimensions view members (row_at rows place) number
    → AreRowNumbers dimensions view members rows (place + 1) (set numbers place number)
one_number_more dimensions view members rows place numbers number so_far own = record {
  many = length-set numbers place number ∙ so_far.many;
  each = λ k before inside. by k before (omega (arith, inside, length-set numbers place number)) (cases_eq k place);
}
  where
    by : (k : ℕ) → k < place + 1 → k < length numbers → (k ≡ place) ⊎ (k ≡ place → ⊥)
        → IsNumberOfRow dimensions view members (row_at rows k) (get_or (set numbers place number) k 0)
    by k before inside (inl same) =
        subst (λ (n : ℕ). IsNumberOfRow dimensions view members (row_at rows n) (get_or (set numbers place number) n 0))
        (sym same)
        (subst (λ (one : ℕ). IsNumberOfRow dimensions view members (row_at rows place) one)
        (sym (get_or-set_same numbers place number 0 (omega (arith, inside, same)))) own)
    by k before inside (inr apart) =
        subst (λ (one : ℕ). IsNumberOfRow dimensions view members (row_at rows k) one)
        (sym (get_or-set_other numbers place k number 0 apart))
        (so_far.each k (omega (arith, before, apart)) inside)

-- the key of a row among the keys of all
pub own_key_in : (dimensions : DimRows) (modes : List (List ℕ)) (view : View) (members : ViewMembers)
    (rows : List LineOrder) (place : ℕ)
    → place < length rows → (keys : List Key) (key : Key)
    → ((d : Key) → place < length keys → key ≡ get_or keys place d)
    → AreRowKeys dimensions modes view members rows (length rows) keys
    → IsKeyOfRow dimensions modes view members (row_at rows place) key
own_key_in dimensions modes view members rows place within keys key here are =
    let inside : place < length keys = omega (arith, within, are.many) in
    subst (IsKeyOfRow dimensions modes view members (row_at rows place)) (sym (here key inside))
    (are.each place key within inside)
