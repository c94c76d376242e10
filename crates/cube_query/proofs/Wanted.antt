-- Cells without some that need not be looked at: what is merged in of them is what all of them are.
use Rattle.std.proofs.Common.{◌≡◌, ◌∙◌, inl, inr, sym, ap, refl, subst, ℕ, zero, suc, ◌≤◌, true, false, cond, List, []}
use Rattle.std.proofs.Common.{◌∷◌, ◌++◌, length, Option, Some, None, arith, All}
use Rattle.std.specs.Prelude.{◌==◌, nat_abs}
use Rattle.std.specs.List.{Contains, sum_by}
use Rattle.std.specs.declared.alloc.Global.{Global}
use Rattle.std.specs.declared.vec.Vec.{Vec}
use Rattle.std.proofs.lemmas.Bool.Decides.{nat_tests}
use Rattle.std.proofs.lemmas.List.Elements.{All-head, All-tail}
use Rattle.std.proofs.lemmas.List.Sums.{sum_by-append, sum_by-cons}
use Rattle.cube_model.specs.declared.measure.Agg.{Agg}
use Rattle.cube_model.specs.declared.rows.LineOrder.{LineOrder}
use Rattle.cuboid_cells.specs.declared.cell.Cell.{Cell}
use Rattle.cuboid_cells.specs.declared.key.Key.{Key}
use Rattle.cuboid_cells.specs.Cells.{cell_at, key_as_number}
use Rattle.cuboid_upkeep.specs.CellNumbers.{AskedOfCells, IsUnwanted}
use Rattle.cuboid_upkeep.specs.Grouping.{HasMembers, key_of}
use Rattle.cuboid_upkeep.specs.Representatives.{AreRepresentatives}
use Rattle.cube_query.specs.CellRuns.{LeavesOut}
use Rattle.cube_query.specs.CellTallies.{GroupsHaveRoomFor, HasRoomForCells, HaveRoomFor, after_cells, cell_tally}
use Rattle.cube_query.specs.CellTallies.{with_cells}
use Rattle.group_tallies.specs.Columns.{tallies_at}
use Rattle.group_tallies.specs.FoldInvariant.{AreGroupSlots}
use Rattle.group_tallies.specs.Tallies.{merged_tally}
use Rattle.group_tallies.specs.declared.tally.Tally.{Tally}
use Rattle.cube_query.proofs.CellGroups.{slot_by}
use Rattle.cube_query.proofs.RowSlots.{HasSlot}

module _ (asked : AskedOfCells) where
  -- none is left out
  pub leaves_none : (cells : List Cell) → LeavesOut asked cells cells
  leaves_none [] = refl
  leaves_none (cell ∷ cells) = inr (cells, refl, leaves_none cells)

  -- the first are
  pub leaves_first : (passed cells : List Cell) → All (IsUnwanted asked) passed
      → LeavesOut asked (passed ++ cells) cells
  leaves_first [] cells all = leaves_none cells
  leaves_first (cell ∷ passed) cells all =
      inl (
        All-head (IsUnwanted asked) cell passed all,
        leaves_first passed cells (All-tail (IsUnwanted asked) cell passed all),
      )

  -- one part after another
  pub leaves_append : (a b wanted more : List Cell) → LeavesOut asked a wanted → LeavesOut asked b more
      → LeavesOut asked (a ++ b) (wanted ++ more)
  leaves_append [] b wanted more one other =
      subst (λ (front : List Cell). LeavesOut asked b (front ++ more)) (sym one) other
  leaves_append (cell ∷ a) b wanted more (inl none) other = inl (none.0, leaves_append a b wanted more none.1 other)
  leaves_append (cell ∷ a) b wanted more (inr kept) other =
      inr (kept.0 ++ more, ap (λ (front : List Cell). front ++ more) kept.1, leaves_append a b kept.0 more kept.2 other)

  -- ---- room
  fewer : (f : Cell → ℕ) (cells wanted : List Cell) → LeavesOut asked cells wanted → sum_by f wanted ≤ sum_by f cells
  fewer f [] wanted out = omega (arith, ap (sum_by f) out)
  fewer f (cell ∷ cells) wanted (inl none) = omega (arith, fewer f cells wanted none.1, sum_by-cons f cell cells)
  fewer f (cell ∷ cells) wanted (inr kept) =
      omega (
        arith,
        fewer f cells kept.0 kept.2,
        sum_by-cons f cell cells,
        sum_by-cons f cell kept.0,
        ap (sum_by f) kept.1,
      )

  module _ (cells rest all wanted : List Cell) (is : all ≡ cells ++ rest) (out : LeavesOut asked cells wanted) where
    less : (f : Cell → ℕ) → sum_by f wanted ≤ sum_by f all
    less f = omega (arith, fewer f cells wanted out, ap (sum_by f) is, sum_by-append f cells rest)

    one_room : (agg : Agg) (tally : Tally) → HasRoomForCells agg all tally → HasRoomForCells agg wanted tally
    one_room agg tally room = record {
      few = omega (arith, room.few, less (λ cell. cell.count));
      small = omega (arith, room.small, less (λ cell. nat_abs (cell_tally agg cell).sum));
    }

    each_room : (aggs : List Agg) (tallies : List Tally) → HaveRoomFor aggs all tallies
        → HaveRoomFor aggs wanted tallies
    each_room [] tallies room = tt
    each_room (agg ∷ aggs) [] room = tt
    each_room (agg ∷ aggs) (tally ∷ tallies) room = (one_room agg tally room.0, each_room aggs tallies room.1)

    -- groups that have room for all cells have it for those that are wanted
    pub rooms_wanted : (aggs : List Agg) (entries : List (ℕ × ℕ)) (columns : List (Vec Tally Global))
        → GroupsHaveRoomFor entries aggs all columns → GroupsHaveRoomFor entries aggs wanted columns
    rooms_wanted aggs entries columns room number slot found =
        each_room aggs (tallies_at columns slot) (room number slot found)

  -- ---- the slots of all cells: none of those that are left out
  abbrev pub slots_for : (cells wanted : List Cell) → LeavesOut asked cells wanted → List (Option ℕ) → List (Option ℕ)
  slots_for [] wanted out group_slots = []
  slots_for (cell ∷ cells) wanted (inl none) group_slots = None ∷ slots_for cells wanted none.1 group_slots
  slots_for (cell ∷ cells) wanted (inr kept) [] = None ∷ slots_for cells kept.0 kept.2 []
  slots_for (cell ∷ cells) wanted (inr kept) (group_slot ∷ group_slots) =
      group_slot ∷ slots_for cells kept.0 kept.2 group_slots

  pub slots_for-length : (cells wanted : List Cell) (out : LeavesOut asked cells wanted) (group_slots : List (Option ℕ))
      → length (slots_for cells wanted out group_slots) ≡ length cells
  slots_for-length [] wanted out group_slots = refl
  slots_for-length (cell ∷ cells) wanted (inl none) group_slots =
      ap suc (slots_for-length cells wanted none.1 group_slots)
  slots_for-length (cell ∷ cells) wanted (inr kept) [] = ap suc (slots_for-length cells kept.0 kept.2 [])
  slots_for-length (cell ∷ cells) wanted (inr kept) (group_slot ∷ group_slots) =
      ap suc (slots_for-length cells kept.0 kept.2 group_slots)

  after_wanted : (agg : Agg) (slot : ℕ) (cells wanted : List Cell) (out : LeavesOut asked cells wanted)
      (group_slots : List (Option ℕ)) (tally : Tally) → length group_slots ≡ length wanted
      → after_cells agg slot cells (slots_for cells wanted out group_slots) tally
      ≡ after_cells agg slot wanted group_slots tally
  after_wanted agg slot [] wanted out group_slots tally same =
      sym (ap (λ (cells : List Cell). after_cells agg slot cells group_slots tally) out)
  after_wanted agg slot (cell ∷ cells) wanted (inl none) group_slots tally same =
      after_wanted agg slot cells wanted none.1 group_slots tally same
  after_wanted agg slot (cell ∷ cells) wanted (inr kept) [] tally same = absurd (omega (arith, same, ap length kept.1))
  after_wanted agg slot (cell ∷ cells) wanted (inr kept) (None ∷ group_slots) tally same =
      after_wanted agg slot cells kept.0 kept.2 group_slots tally (omega (arith, same, ap length kept.1))
      ∙ sym (ap (λ (all : List Cell). after_cells agg slot all (None ∷ group_slots) tally) kept.1)
  after_wanted agg slot (cell ∷ cells) wanted (inr kept) (Some other ∷ group_slots) tally same =
      after_wanted agg slot cells kept.0 kept.2 group_slots
      (cond (other == slot) (merged_tally tally (cell_tally agg cell)) tally) (omega (arith, same, ap length kept.1))
      ∙ sym (ap (λ (all : List Cell). after_cells agg slot all (Some other ∷ group_slots) tally) kept.1)

  pub with_wanted : (slot : ℕ) (cells wanted : List Cell) (out : LeavesOut asked cells wanted)
      (group_slots : List (Option ℕ)) → length group_slots ≡ length wanted → (aggs : List Agg) (tallies : List Tally)
      → with_cells aggs slot cells (slots_for cells wanted out group_slots) tallies
      ≡ with_cells aggs slot wanted group_slots tallies
  with_wanted slot cells wanted out group_slots same [] tallies = refl
  with_wanted slot cells wanted out group_slots same (agg ∷ aggs) [] = refl
  with_wanted slot cells wanted out group_slots same (agg ∷ aggs) (tally ∷ tallies) =
      let one = after_wanted agg slot cells wanted out group_slots tally same in
      let rest = with_wanted slot cells wanted out group_slots same aggs tallies in
      λ i. one i ∷ rest i

  -- rows have the keys of cells
  abbrev pub HaveRows : List Cell → Type 0
  HaveRows cells = (cell : Cell) → Contains cells cell
      → (row : LineOrder) × HasMembers asked.dimensions asked.modes asked.view row
      × (key_of asked.dimensions asked.modes asked.view row ≡ cell.key)

  -- the slot at the number of each cell is that of a row
  pub wanted_slot : (entries : List (ℕ × ℕ)) (cells wanted : List Cell) (out : LeavesOut asked cells wanted)
      (rows : List LineOrder) (group_slots : List (Option ℕ)) (number : ℕ) (found : Cell)
      → AreRepresentatives asked.dimensions asked.modes asked.view wanted rows
      → AreGroupSlots asked.dimensions asked.query entries rows group_slots → HaveRows cells
      → cell_at number cells ≡ Some found
      → HasSlot asked.dimensions asked.modes asked.view asked.query entries number
      (slot_by cells (slots_for cells wanted out group_slots) number)
  wanted_slot entries [] wanted out rows group_slots number found have_cells are have is = absurd (cc is)
  wanted_slot entries (cell ∷ cells) wanted (inl none) rows group_slots number found have_cells are have is =
      (elim (key_as_number cell.key == number) as
      (λ b. (key_as_number cell.key == number) ≡ b → cond b (Some cell) (cell_at number cells) ≡ Some found
      → HasSlot asked.dimensions asked.modes asked.view asked.query entries number
      (cond b None (slot_by cells (slots_for cells wanted none.1 group_slots) number))) [
        | true ↦ λ e there.
            (let own : key_as_number cell.key ≡ number = grind (arith, nat_tests) in
            let row = have cell (zero, omega arith, refl) in
            let other = none.0 row.0 row.1 row.2 in
            record {
              row = other.row;
              members = other.members;
              number_is = ap (λ (k : Key). key_as_number k) other.key_is
                  ∙ own;
              slot = other.number_is;
            })
        | false ↦ λ e there.
            wanted_slot entries cells wanted none.1 rows group_slots number found have_cells are
            (λ one among. have one (suc among.0, omega (arith, among.1), among.2)) there
      ]) refl is
  wanted_slot entries (cell ∷ cells) wanted (inr kept) rows group_slots number found have_cells are have is =
      kept_slot rows group_slots (subst
      (λ (own : List Cell). AreRepresentatives asked.dimensions asked.modes asked.view own rows) kept.1 have_cells) are
      (λ others later own slots there. wanted_slot entries cells kept.0 kept.2 others later number found own slots
      (λ one among. have one (suc among.0, omega (arith, among.1), among.2)) there)
    where
      kept_slot : (rows : List LineOrder) (group_slots : List (Option ℕ))
          → AreRepresentatives asked.dimensions asked.modes asked.view (cell ∷ kept.0) rows
          → AreGroupSlots asked.dimensions asked.query entries rows group_slots
          → ((others : List LineOrder) (later : List (Option ℕ))
          → AreRepresentatives asked.dimensions asked.modes asked.view kept.0 others
          → AreGroupSlots asked.dimensions asked.query entries others later
          → cell_at number cells ≡ Some found
          → HasSlot asked.dimensions asked.modes asked.view asked.query entries number
          (slot_by cells (slots_for cells kept.0 kept.2 later) number))
          → HasSlot asked.dimensions asked.modes asked.view asked.query entries number
          (slot_by (cell ∷ cells) (slots_for (cell ∷ cells) wanted (inr kept) group_slots) number)
      kept_slot [] group_slots have_cells are next = absurd have_cells
      kept_slot (row ∷ rows) [] have_cells are next = absurd are
      kept_slot (row ∷ rows) (group_slot ∷ group_slots) have_cells are next =
          (elim (key_as_number cell.key == number) as
          (λ b. (key_as_number cell.key == number) ≡ b → cond b (Some cell) (cell_at number cells) ≡ Some found
          → HasSlot asked.dimensions asked.modes asked.view asked.query entries number
          (cond b group_slot (slot_by cells (slots_for cells kept.0 kept.2 group_slots) number))) [
            | true ↦ λ e there.
                (let own : key_as_number cell.key ≡ number = grind (arith, nat_tests) in
                record {
                  row = row;
                  members = record { axes = λ axis apart. have_cells.0.known axis; ship_mode = have_cells.0.ship_mode };
                  number_is = ap (λ (k : Key). key_as_number k) have_cells.0.key_is ∙ own;
                  slot = are.0;
                })
            | false ↦ λ e there. next rows group_slots have_cells.1 are.1 there
          ]) refl is
