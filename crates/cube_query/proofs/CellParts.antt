-- Cells that are merged in part by part.
use Rattle.std.proofs.Common.{◌≡◌, ◌∙◌, sym, ap, refl, subst, ℕ, zero, suc, ◌+◌, cond, List, [], ◌∷◌, ◌++◌, length}
use Rattle.std.proofs.Common.{get_or, slice_set, Option, Some, None, arith}
use Rattle.std.specs.Prelude.{◌==◌, nat_abs}
use Rattle.std.specs.List.{Contains, sum_by}
use Rattle.std.specs.declared.alloc.Global.{Global}
use Rattle.std.specs.declared.vec.Vec.{Vec}
use Rattle.std.proofs.lemmas.List.Elements.{Contains-append_left, Contains-append_right}
use Rattle.std.proofs.lemmas.List.Sums.{sum_by-append}
use Rattle.cube_model.specs.declared.measure.Agg.{Agg}
use Rattle.cube_model.specs.declared.query.Query.{Query}
use Rattle.cube_model.specs.declared.rows.DimRows.{DimRows}
use Rattle.cube_model.specs.declared.rows.LineOrder.{LineOrder}
use Rattle.cuboid_cells.specs.declared.cell.Cell.{Cell}
use Rattle.cuboid_upkeep.specs.CellNumbers.{AskedOfCells}
use Rattle.cuboid_upkeep.specs.Representatives.{AreRepresentatives}
use Rattle.cube_query.specs.CellSlots.{AreCellSlots, AreMergedIn, HaveNoRepresentative}
use Rattle.cube_query.specs.CellTallies.{GroupsHaveRoomFor, HasRoomForCells, HaveRoomFor, after_cells, cell_tally}
use Rattle.cube_query.specs.CellTallies.{with_cells}
use Rattle.group_tallies.specs.Columns.{tallies_at, tally_at}
use Rattle.group_tallies.specs.FoldInvariant.{AreGroupSlots}
use Rattle.group_tallies.specs.Slots.{slot_of}
use Rattle.group_tallies.specs.Tallies.{merged_tally}
use Rattle.group_tallies.specs.declared.tally.Tally.{Tally}
use Rattle.cube_query.proofs.CellMerges.{after-count, after-size}
use Rattle.cube_query.proofs.CellSlotsLemmas.{cell_slots-length}
use Rattle.group_tallies.proofs.Marking.{AreGroupSlots-keep}

-- ---- one part after another
module _ (slot : ℕ) where
  after_cells-append : (agg : Agg) (a b : List Cell) (ga gb : List (Option ℕ)) (tally : Tally) → length ga ≡ length a
      → after_cells agg slot (a ++ b) (ga ++ gb) tally ≡ after_cells agg slot b gb (after_cells agg slot a ga tally)
  after_cells-append agg [] b [] gb tally same = refl
  after_cells-append agg [] b (other ∷ ga) gb tally same = absurd (omega (arith, same))
  after_cells-append agg (first ∷ a) b [] gb tally same = absurd (omega (arith, same))
  after_cells-append agg (first ∷ a) b (None ∷ ga) gb tally same =
      after_cells-append agg a b ga gb tally (omega (arith, same))
  after_cells-append agg (first ∷ a) b (Some other ∷ ga) gb tally same =
      after_cells-append agg a b ga gb (cond (other == slot) (merged_tally tally (cell_tally agg first)) tally)
      (omega (arith, same))

  with_cells-append : (a b : List Cell) (ga gb : List (Option ℕ)) → length ga ≡ length a
      → (aggs : List Agg) (tallies : List Tally)
      → with_cells aggs slot (a ++ b) (ga ++ gb) tallies ≡ with_cells aggs slot b gb (with_cells aggs slot a ga tallies)
  with_cells-append a b ga gb same [] tallies = refl
  with_cells-append a b ga gb same (agg ∷ aggs) [] = refl
  with_cells-append a b ga gb same (agg ∷ aggs) (tally ∷ tallies) =
      let one = after_cells-append agg a b ga gb tally same in
      let rest = with_cells-append a b ga gb same aggs tallies in
      λ i. one i ∷ rest i

represent_append : (asked : AskedOfCells) (a b : List Cell) (rows others : List LineOrder)
    → AreRepresentatives asked.dimensions asked.modes asked.view a rows
    → AreRepresentatives asked.dimensions asked.modes asked.view b others
    → AreRepresentatives asked.dimensions asked.modes asked.view (a ++ b) (rows ++ others)
represent_append asked [] b [] others one other = other
represent_append asked [] b (row ∷ rows) others one other = absurd one
represent_append asked (cell ∷ a) b [] others one other = absurd one
represent_append asked (cell ∷ a) b (row ∷ rows) others one other =
    (one.0, represent_append asked a b rows others one.1 other)

slots_append : (dimensions : DimRows) (query : Query) (entries : List (ℕ × ℕ)) (rows others : List LineOrder)
    (ga gb : List (Option ℕ)) → AreGroupSlots dimensions query entries rows ga
    → AreGroupSlots dimensions query entries others gb
    → AreGroupSlots dimensions query entries (rows ++ others) (ga ++ gb)
slots_append dimensions query entries [] others [] gb one other = other
slots_append dimensions query entries [] others (g ∷ ga) gb one other = absurd one
slots_append dimensions query entries (row ∷ rows) others [] gb one other = absurd one
slots_append dimensions query entries (row ∷ rows) others (g ∷ ga) gb one other =
    (one.0, slots_append dimensions query entries rows others ga gb one.1 other)

module _ (asked : AskedOfCells) where
  cell_slots-append : (old new : List (ℕ × ℕ))
      → ((number slot : ℕ) → slot_of old number ≡ Some slot → slot_of new number ≡ Some slot)
      → (a b : List Cell) (ga gb : List (Option ℕ)) → AreCellSlots asked old a ga → AreCellSlots asked new b gb
      → AreCellSlots asked new (a ++ b) (ga ++ gb)
  cell_slots-append old new keep a b ga gb one other =
      let kept = AreGroupSlots-keep asked.dimensions asked.query old new keep one.rows ga one.slots in
      record {
        rows = one.rows ++ other.rows;
        represent = represent_append asked a b one.rows other.rows one.represent other.represent;
        slots = slots_append asked.dimensions asked.query new one.rows other.rows ga gb kept other.slots;
      }

  -- one part more is merged in
  pub part_more : (aggs : List Agg) (old new : List (ℕ × ℕ))
      → ((number slot : ℕ) → slot_of old number ≡ Some slot → slot_of new number ≡ Some slot)
      → (a b : List Cell) (first now next : List (Vec Tally Global)) → AreMergedIn asked aggs old a first now
      → AreMergedIn asked aggs new b now next
      → AreMergedIn asked aggs new (a ++ b) first next
  part_more aggs old new keep a b first now next one other = record {
    group_slots = one.group_slots ++ other.group_slots;
    slots = cell_slots-append old new keep a b one.group_slots other.group_slots one.slots other.slots;
    merged = λ slot.
        other.merged slot ∙ ap (with_cells aggs slot b other.group_slots) (one.merged slot)
        ∙ sym (with_cells-append slot a b one.group_slots other.group_slots
        (cell_slots-length asked old a one.group_slots one.slots) aggs (tallies_at first slot));
  }

  -- what no row represents among a part, none represents among all
  pub none_among : (a b rest all : List Cell) → all ≡ (a ++ b) ++ rest → HaveNoRepresentative asked b
      → HaveNoRepresentative asked all
  none_among a b rest all is none = record {
    cell = none.cell;
    among = subst (λ (cells : List Cell). Contains cells none.cell) (sym is)
        (Contains-append_left (a ++ b) rest none.cell (Contains-append_right a b none.cell none.among));
    none = none.none;
  }

-- ---- room
module _ (a b rest all : List Cell) (is : all ≡ (a ++ b) ++ rest) (slot : ℕ) (group_slots : List (Option ℕ)) where
  sums : (f : Cell → ℕ) → sum_by f all ≡ (sum_by f a + sum_by f b) + sum_by f rest
  sums f = ap (sum_by f) is ∙ (omega (arith, sum_by-append f (a ++ b) rest, sum_by-append f a b))

  one_part : (agg : Agg) (tally : Tally) → HasRoomForCells agg all tally
      → HasRoomForCells agg b (after_cells agg slot a group_slots tally)
  one_part agg tally room = record {
    few = omega (arith, room.few, after-count agg slot a group_slots tally, sums (λ cell. cell.count));
    small = omega
        (arith, room.small, after-size agg slot a group_slots tally, sums (λ cell. nat_abs (cell_tally agg cell).sum));
  }

  room_part : (aggs : List Agg) (tallies : List Tally) → HaveRoomFor aggs all tallies
      → HaveRoomFor aggs b (with_cells aggs slot a group_slots tallies)
  room_part [] tallies room = tt
  room_part (agg ∷ aggs) [] room = tt
  room_part (agg ∷ aggs) (tally ∷ tallies) room = (one_part agg tally room.0, room_part aggs tallies room.1)

-- groups that have room for all cells have it for a part after those before
pub rooms_part : (asked : AskedOfCells) (aggs : List Agg) (old new : List (ℕ × ℕ)) (a b rest all : List Cell)
    → all ≡ (a ++ b) ++ rest → (first now : List (Vec Tally Global))
    → AreMergedIn asked aggs old a first now → GroupsHaveRoomFor new aggs all first → GroupsHaveRoomFor new aggs b now
rooms_part asked aggs old new a b rest all is first now are room number slot found =
    subst (HaveRoomFor aggs b) (sym (are.merged slot))
    (room_part a b rest all is slot are.group_slots aggs (tallies_at first slot) (room number slot found))

-- ---- the tallies at other slots
pub tallies-set : (columns : List (Vec Tally Global)) (n : ℕ) (column : Vec Tally Global) (other : ℕ)
    → ((first : Vec Tally Global) → tally_at column.items other ≡ tally_at (get_or columns n first).items other)
    → tallies_at (slice_set columns n column) other ≡ tallies_at columns other
tallies-set [] n column other same = refl
tallies-set (one ∷ columns) zero column other same = ap (λ (t : Tally). t ∷ tallies_at columns other) (same one)
tallies-set (one ∷ columns) (suc n) column other same =
    ap (λ (ts : List Tally). tally_at one.items other ∷ ts) (tallies-set columns n column other same)
