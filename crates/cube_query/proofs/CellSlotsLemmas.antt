-- The slots of cells, one cell after another.
use Rattle.std.proofs.Common.{◌≡◌, ◌∙◌, sym, ap, refl, subst, ℕ, suc, ◌<◌, List, [], ◌∷◌, ◌++◌, length, take, get_or}
use Rattle.std.proofs.Common.{Option, Some}
use Rattle.std.specs.declared.alloc.Global.{Global}
use Rattle.std.specs.declared.vec.Vec.{Vec}
use Rattle.cube_model.specs.declared.measure.Agg.{Agg}
use Rattle.cube_model.specs.declared.rows.LineOrder.{LineOrder}
use Rattle.cuboid_cells.specs.declared.cell.Cell.{Cell}
use Rattle.cuboid_upkeep.specs.CellNumbers.{AskedOfCells}
use Rattle.cuboid_upkeep.specs.Representatives.{AreRepresentatives, IsRepresentative}
use Rattle.cube_query.specs.CellSlots.{AreCellSlots, AreMergedIn, IsCellSlot, IsMergedIn}
use Rattle.cube_query.specs.CellTallies.{GroupsHaveRoomFor, HaveRoomFor, with_cells}
use Rattle.group_tallies.specs.Columns.{tallies_at}
use Rattle.group_tallies.specs.Slots.{slot_of}
use Rattle.group_tallies.specs.declared.tally.Tally.{Tally}
use Rattle.cube_query.proofs.CellMerges.{columns_as_they_are, no_cell, room_next, with_cells-push}
use Rattle.group_tallies.proofs.Marking.{AreGroupSlots-keep, AreGroupSlots-length, AreGroupSlots-push}

module _ (asked : AskedOfCells) where
  represent_push : (cells : List Cell) (rows : List LineOrder) (cell : Cell) (row : LineOrder)
      → AreRepresentatives asked.dimensions asked.modes asked.view cells rows
      → IsRepresentative asked.dimensions asked.modes asked.view cell row
      → AreRepresentatives asked.dimensions asked.modes asked.view (cells ++ cell ∷ []) (rows ++ row ∷ [])
  represent_push [] [] cell row are is = (is, tt)
  represent_push [] (other ∷ rows) cell row are is = absurd are
  represent_push (first ∷ cells) [] cell row are is = absurd are
  represent_push (first ∷ cells) (other ∷ rows) cell row are is = (are.0, represent_push cells rows cell row are.1 is)

  represent_length : (cells : List Cell) (rows : List LineOrder)
      → AreRepresentatives asked.dimensions asked.modes asked.view cells rows → length rows ≡ length cells
  represent_length [] [] are = refl
  represent_length [] (row ∷ rows) are = absurd are
  represent_length (cell ∷ cells) [] are = absurd are
  represent_length (cell ∷ cells) (row ∷ rows) are = ap suc (represent_length cells rows are.1)

  pub cell_slots-length : (entries : List (ℕ × ℕ)) (cells : List Cell) (group_slots : List (Option ℕ))
      → AreCellSlots asked entries cells group_slots → length group_slots ≡ length cells
  cell_slots-length entries cells group_slots are =
      AreGroupSlots-length asked.dimensions asked.query entries are.rows group_slots are.slots
      ∙ represent_length cells are.rows are.represent

  pub cell_slots-none : (entries : List (ℕ × ℕ)) → AreCellSlots asked entries [] []
  cell_slots-none entries = record { rows = []; represent = tt; slots = tt }

  -- one cell more, where numbers keep their slots
  pub cell_slots-push : (old new : List (ℕ × ℕ))
      → ((number slot : ℕ) → slot_of old number ≡ Some slot → slot_of new number ≡ Some slot)
      → (cells : List Cell) (group_slots : List (Option ℕ)) (cell : Cell) (group_slot : Option ℕ)
      → AreCellSlots asked old cells group_slots → IsCellSlot asked new cell group_slot
      → AreCellSlots asked new (cells ++ cell ∷ []) (group_slots ++ group_slot ∷ [])
  cell_slots-push old new keep cells group_slots cell group_slot are is =
      let kept = AreGroupSlots-keep asked.dimensions asked.query old new keep are.rows group_slots are.slots in
      record {
        rows = are.rows ++ is.row ∷ [];
        represent = represent_push cells are.rows cell is.row are.represent is.represents;
        slots = AreGroupSlots-push asked.dimensions asked.query new are.rows group_slots is.row group_slot kept is.slot;
      }

  -- no cell is merged in yet
  pub none_yet : (aggs : List Agg) (entries : List (ℕ × ℕ)) (columns : List (Vec Tally Global))
      → length columns ≡ length aggs → AreMergedIn asked aggs entries [] columns columns
  none_yet aggs entries columns same = record {
    group_slots = [];
    slots = cell_slots-none entries;
    merged = columns_as_they_are aggs columns same;
  }

  -- one cell more is
  pub one_more : (aggs : List Agg) (old new : List (ℕ × ℕ))
      → ((number slot : ℕ) → slot_of old number ≡ Some slot → slot_of new number ≡ Some slot)
      → (cells : List Cell) (cell : Cell) (first now next : List (Vec Tally Global))
      → AreMergedIn asked aggs old cells first now → IsMergedIn asked aggs new cell now next
      → AreMergedIn asked aggs new (cells ++ cell ∷ []) first next
  one_more aggs old new keep cells cell first now next are is = record {
    group_slots = are.group_slots ++ is.group_slot ∷ [];
    slots = cell_slots-push old new keep cells are.group_slots cell is.group_slot are.slots is.own;
    merged = λ slot.
        is.merged slot ∙ ap (with_cells aggs slot (cell ∷ []) (is.group_slot ∷ [])) (are.merged slot)
        ∙ sym (with_cells-push slot cells are.group_slots cell is.group_slot
        (cell_slots-length old cells are.group_slots are.slots) aggs (tallies_at first slot));
  }

  -- groups that have room for cells have it for each of them after those before
  pub rooms_next : (aggs : List Agg) (old new : List (ℕ × ℕ)) (cells : List Cell) (place : ℕ) → place < length cells
      → (first now : List (Vec Tally Global))
      → AreMergedIn asked aggs old (take place cells) first now → GroupsHaveRoomFor new aggs cells first
      → GroupsHaveRoomFor new aggs (get_or cells place no_cell ∷ []) now
  rooms_next aggs old new cells place h first now are room number slot found =
      subst (HaveRoomFor aggs (get_or cells place no_cell ∷ [])) (sym (are.merged slot))
      (room_next cells place h slot are.group_slots aggs (tallies_at first slot) (room number slot found))

  -- what is merged into a copy of columns is merged into them
  pub merged_from : (aggs : List Agg) (entries : List (ℕ × ℕ)) (cells : List Cell)
      (columns copy new : List (Vec Tally Global)) → ((slot : ℕ) → tallies_at copy slot ≡ tallies_at columns slot)
      → AreMergedIn asked aggs entries cells copy new → AreMergedIn asked aggs entries cells columns new
  merged_from aggs entries cells columns copy new same are = record {
    group_slots = are.group_slots;
    slots = are.slots;
    merged = λ slot. are.merged slot ∙ ap (with_cells aggs slot cells are.group_slots) (same slot);
  }

pub rooms_of_copy : (aggs : List Agg) (entries : List (ℕ × ℕ)) (cells : List Cell)
    (columns copy : List (Vec Tally Global)) → ((slot : ℕ) → tallies_at copy slot ≡ tallies_at columns slot)
    → GroupsHaveRoomFor entries aggs cells columns → GroupsHaveRoomFor entries aggs cells copy
rooms_of_copy aggs entries cells columns copy same room number slot found =
    subst (HaveRoomFor aggs cells) (sym (same slot)) (room number slot found)
