-- Cells that are merged into the tallies of columns.
use Rattle.std.proofs.Common.{◌≡◌, ◌≢◌, ◌∙◌, sym, ap, refl, subst, ℕ, zero, suc, ◌+◌, ◌<◌, ◌≤◌, pos, ◌+ℤ◌, Bool, true}
use Rattle.std.proofs.Common.{false, cond, List, [], ◌∷◌, ◌++◌, map, length, length-set, take, get_or, Option, Some}
use Rattle.std.proofs.Common.{None, arith, slice_set, get_or-set_same, get_or-set_other, below_more}
use Rattle.std.specs.Prelude.{◌==◌, nat_abs}
use Rattle.std.specs.Int.{int_min, int_max}
use Rattle.std.specs.List.{sum_by}
use Rattle.std.proofs.lemmas.Bool.Decides.{nat_tests}
use Rattle.std.proofs.lemmas.List.{length-map}
use Rattle.std.proofs.lemmas.List.Sums.{sum_by-cons, sum_by_more_le}
use Rattle.std.specs.declared.alloc.Global.{Global}
use Rattle.std.specs.declared.vec.Vec.{Vec}
use Rattle.cube_model.specs.declared.measure.Agg.{Agg}
use Rattle.cube_model.specs.declared.measure.Agg.TheVariants.{Count, Sum, Min, Max, Avg}
use Rattle.cube_model.specs.declared.rows.LineOrder.{LineOrder}
use Rattle.cuboid_cells.specs.declared.cell.Cell.{Cell}
use Rattle.cuboid_cells.specs.declared.summary.Summary.{Summary}
use Rattle.cube_query.specs.CellTallies.{SlotsAreBelow, HasRoomForCells, HaveRoomFor, MergesCells, after_cells}
use Rattle.cube_query.specs.CellTallies.{cell_tally}
use Rattle.cube_query.specs.CellTallies.{with_cells}
use Rattle.group_tallies.specs.Columns.{tallies_at, tally_at}
use Rattle.group_tallies.specs.Tallies.{merged_tally, aggregated, tallies_of, tally_of}
use Rattle.group_tallies.specs.declared.tally.Tally.{Tally}
use Rattle.group_tallies.proofs.Sums.{nat_abs-+ℤ}

-- no cell, and nothing of a measure
abbrev pub nothing : Summary
nothing = record { sum = pos 0; least = pos 0; greatest = pos 0 }

abbrev pub no_cell : Cell
no_cell = record {
  key = record { customer = 0; supplier = 0; part = 0; date = 0; ship_mode = 0 };
  count = 0;
  measures = record {
    quantity = nothing;
    extendedprice = nothing;
    revenue = nothing;
    supplycost = nothing;
    discounted = nothing;
    profit = nothing;
  };
}

-- ---- one cell more
module _ (slot : ℕ) where
  after_cells-push : (agg : Agg) (cells : List Cell) (group_slots : List (Option ℕ)) (cell : Cell)
      (group_slot : Option ℕ) (tally : Tally) → length group_slots ≡ length cells
      → after_cells agg slot (cells ++ cell ∷ []) (group_slots ++ group_slot ∷ []) tally
      ≡ after_cells agg slot (cell ∷ []) (group_slot ∷ []) (after_cells agg slot cells group_slots tally)
  after_cells-push agg [] [] cell group_slot tally same = refl
  after_cells-push agg [] (other ∷ group_slots) cell group_slot tally same = absurd (omega (arith, same))
  after_cells-push agg (first ∷ cells) [] cell group_slot tally same = absurd (omega (arith, same))
  after_cells-push agg (first ∷ cells) (None ∷ group_slots) cell group_slot tally same =
      after_cells-push agg cells group_slots cell group_slot tally (omega (arith, same))
  after_cells-push agg (first ∷ cells) (Some other ∷ group_slots) cell group_slot tally same =
      after_cells-push agg cells group_slots cell group_slot
      (cond (other == slot) (merged_tally tally (cell_tally agg first)) tally) (omega (arith, same))

  pub with_cells-push : (cells : List Cell) (group_slots : List (Option ℕ)) (cell : Cell) (group_slot : Option ℕ)
      → length group_slots ≡ length cells → (aggs : List Agg) (tallies : List Tally)
      → with_cells aggs slot (cells ++ cell ∷ []) (group_slots ++ group_slot ∷ []) tallies
      ≡ with_cells aggs slot (cell ∷ []) (group_slot ∷ []) (with_cells aggs slot cells group_slots tallies)
  with_cells-push cells group_slots cell group_slot same [] tallies = refl
  with_cells-push cells group_slots cell group_slot same (agg ∷ aggs) [] = refl
  with_cells-push cells group_slots cell group_slot same (agg ∷ aggs) (tally ∷ tallies) =
      let one = after_cells-push agg cells group_slots cell group_slot tally same in
      let rest = with_cells-push cells group_slots cell group_slot same aggs tallies in
      λ i. one i ∷ rest i

  -- no cell at all, where there is a tally for each aggregate
  none_merged : (aggs : List Agg) (tallies : List Tally) → length tallies ≡ length aggs
      → with_cells aggs slot [] [] tallies ≡ tallies
  none_merged [] [] same = refl
  none_merged [] (tally ∷ tallies) same = absurd (omega (arith, same))
  none_merged (agg ∷ aggs) [] same = absurd (omega (arith, same))
  none_merged (agg ∷ aggs) (tally ∷ tallies) same =
      ap (λ (rest : List Tally). tally ∷ rest) (none_merged aggs tallies (omega (arith, same)))

  -- and a cell without a slot
  unslotted : (cell : Cell) (aggs : List Agg) (tallies : List Tally) → length tallies ≡ length aggs
      → with_cells aggs slot (cell ∷ []) (None ∷ []) tallies ≡ tallies
  unslotted cell [] [] same = refl
  unslotted cell [] (tally ∷ tallies) same = absurd (omega (arith, same))
  unslotted cell (agg ∷ aggs) [] same = absurd (omega (arith, same))
  unslotted cell (agg ∷ aggs) (tally ∷ tallies) same =
      ap (λ (rest : List Tally). tally ∷ rest) (unslotted cell aggs tallies (omega (arith, same)))

pub columns_as_they_are : (aggs : List Agg) (columns : List (Vec Tally Global)) → length columns ≡ length aggs
    → (slot : ℕ) → tallies_at columns slot ≡ with_cells aggs slot [] [] (tallies_at columns slot)
columns_as_they_are aggs columns same slot =
    sym (none_merged slot aggs (tallies_at columns slot)
    (length-map columns (λ (column : Vec Tally Global). tally_at column.items slot) ∙ same))

pub columns_without_it : (cell : Cell) (aggs : List Agg) (columns : List (Vec Tally Global))
    → length columns ≡ length aggs → (slot : ℕ)
    → tallies_at columns slot ≡ with_cells aggs slot (cell ∷ []) (None ∷ []) (tallies_at columns slot)
columns_without_it cell aggs columns same slot =
    sym (unslotted slot cell aggs (tallies_at columns slot)
    (length-map columns (λ (column : Vec Tally Global). tally_at column.items slot) ∙ same))

pub as_many : (one other : List (Vec Tally Global)) → ((slot : ℕ) → tallies_at one slot ≡ tallies_at other slot)
    → length one ≡ length other
as_many one other same =
    sym (length-map one (λ (column : Vec Tally Global). tally_at column.items 0)) ∙ ap length (same 0)
    ∙ length-map other (λ (column : Vec Tally Global). tally_at column.items 0)

-- ---- all columns

-- in the columns below a place cells are merged in, and the others are as they were
pub record AreMergedBelow (n : ℕ) (aggs : List Agg) (cells : List Cell) (group_slots : List (Option ℕ))
    (old new : List (Vec Tally Global)) : Type 0 where
  pub same_length : length new ≡ length old
  pub merged : (k : ℕ) → k < n → (agg : Agg) (column : Vec Tally Global)
      → MergesCells (get_or aggs k agg) cells group_slots (get_or old k column).items (get_or new k column).items
  pub kept : (k : ℕ) → n ≤ k → (column : Vec Tally Global) → get_or new k column ≡ get_or old k column

module _ (cells : List Cell) (group_slots : List (Option ℕ)) where
  pub AreMergedBelow-set : (aggs : List Agg) (old now : List (Vec Tally Global)) (n : ℕ) (column : Vec Tally Global)
      → length old ≡ length aggs → n < length aggs → AreMergedBelow n aggs cells group_slots old now
      → ((agg : Agg) (first : Vec Tally Global)
      → MergesCells (get_or aggs n agg) cells group_slots (get_or now n first).items column.items)
      → AreMergedBelow (n + 1) aggs cells group_slots old (slice_set now n column)
  AreMergedBelow-set aggs old now n column same h before here =
      let in_now : n < length now = omega (arith, before.same_length, same, h) in
      record {
        same_length = length-set now n column ∙ before.same_length;
        merged = below_more _ _
            (λ k below agg first. let other : k ≢ n = omega (arith, below) in
            subst (λ (c : Vec Tally Global). MergesCells (get_or aggs k agg) cells group_slots
            (get_or old k first).items c.items) (sym (get_or-set_other now n k column first other))
            (before.merged k below agg first))
            (λ agg first.
            subst (λ (c : Vec Tally Global). MergesCells (get_or aggs n agg) cells group_slots
            (get_or old n first).items c.items) (sym (get_or-set_same now n column first in_now))
            (subst (λ (c : Vec Tally Global). MergesCells (get_or aggs n agg) cells group_slots c.items column.items)
            (before.kept n (omega arith) first) (here agg first)));
        kept = λ k above first. let other : k ≢ n = omega (arith, above) in get_or-set_other now n k column first other
            ∙ before.kept k (omega (arith, above)) first;
      }

  merged_each : (slot : ℕ) (aggs : List Agg) (old new : List (Vec Tally Global)) → length old ≡ length aggs
      → length new ≡ length aggs
      → ((k : ℕ) → k < length aggs → (agg : Agg) (column : Vec Tally Global)
      → MergesCells (get_or aggs k agg) cells group_slots (get_or old k column).items (get_or new k column).items)
      → tallies_at new slot ≡ with_cells aggs slot cells group_slots (tallies_at old slot)
  merged_each slot [] [] [] same many each = refl
  merged_each slot [] [] (one ∷ new) same many each = absurd (omega (arith, many))
  merged_each slot [] (one ∷ old) new same many each = absurd (omega (arith, same))
  merged_each slot (agg ∷ aggs) [] new same many each = absurd (omega (arith, same))
  merged_each slot (agg ∷ aggs) (one ∷ old) [] same many each = absurd (omega (arith, many))
  merged_each slot (agg ∷ aggs) (one ∷ old) (first ∷ new) same many each =
      let here = each 0 (omega arith) agg one slot in
      let rest = merged_each slot aggs old new (omega (arith, same)) (omega (arith, many))
      (λ k h other column. each (suc k) (omega (arith, h)) other column) in
      λ i. here i ∷ rest i

  pub all_columns_merged : (aggs : List Agg) (old new : List (Vec Tally Global)) (n : ℕ) → length old ≡ length aggs
      → length aggs ≤ n → AreMergedBelow n aggs cells group_slots old new
      → (slot : ℕ) → tallies_at new slot ≡ with_cells aggs slot cells group_slots (tallies_at old slot)
  all_columns_merged aggs old new n same h done slot =
      merged_each slot aggs old new same (done.same_length ∙ same)
      (λ k below agg column. done.merged k (omega (arith, below, h)) agg column)

-- ---- how far a merge goes
abbrev joined : Tally → Tally → Tally
joined left right = record {
  count = left.count + right.count;
  sum = left.sum +ℤ right.sum;
  least = int_min left.least right.least;
  greatest = int_max left.greatest right.greatest;
}

merged-count : (a b : Tally) → (merged_tally a b).count ≤ a.count + b.count
merged-count a b =
    elim (a.count == 0) as (λ t. (cond t b (cond (b.count == 0) a (joined a b))).count ≤ a.count + b.count) [
      | true ↦ omega arith
      | false ↦ elim (b.count == 0) as (λ t. (cond t a (joined a b)).count ≤ a.count + b.count) [
        | true ↦ omega arith
        | false ↦ omega arith
      ]
    ]

merged-sum : (a b : Tally) → nat_abs (merged_tally a b).sum ≤ nat_abs a.sum + nat_abs b.sum
merged-sum a b =
    elim (a.count == 0) as
    (λ t. nat_abs (cond t b (cond (b.count == 0) a (joined a b))).sum ≤ nat_abs a.sum + nat_abs b.sum) [
      | true ↦ omega arith
      | false ↦ elim (b.count == 0) as (λ t. nat_abs (cond t a (joined a b)).sum ≤ nat_abs a.sum + nat_abs b.sum) [
        | true ↦ omega arith
        | false ↦ nat_abs-+ℤ a.sum b.sum
      ]
    ]

cell_count : (agg : Agg) (cell : Cell) → (cell_tally agg cell).count ≡ cell.count
cell_count Count cell = refl
cell_count (Sum measure) cell = refl
cell_count (Min measure) cell = refl
cell_count (Max measure) cell = refl
cell_count (Avg measure) cell = refl

-- ---- room
pub after-count : (agg : Agg) (slot : ℕ) (cells : List Cell) (group_slots : List (Option ℕ)) (tally : Tally)
    → (after_cells agg slot cells group_slots tally).count ≤ tally.count + sum_by (λ cell. cell.count) cells
after-count agg slot [] group_slots tally = omega arith
after-count agg slot (cell ∷ cells) [] tally = omega arith
after-count agg slot (cell ∷ cells) (None ∷ group_slots) tally =
    omega (arith, after-count agg slot cells group_slots tally, sum_by-cons (λ (own : Cell). own.count) cell cells)
after-count agg slot (cell ∷ cells) (Some other ∷ group_slots) tally =
    let new = merged_tally tally (cell_tally agg cell) in
    let sum = sum_by-cons (λ (own : Cell). own.count) cell cells in
    elim (other == slot) as
    (λ b. (after_cells agg slot cells group_slots (cond b new tally)).count ≤ tally.count
    + sum_by (λ own. own.count) (cell ∷ cells)) [
      | true ↦ omega (
        arith,
        after-count agg slot cells group_slots new,
        merged-count tally (cell_tally agg cell),
        cell_count agg cell,
        sum,
      )
      | false ↦ omega (arith, after-count agg slot cells group_slots tally, sum)
    ]

pub after-size : (agg : Agg) (slot : ℕ) (cells : List Cell) (group_slots : List (Option ℕ)) (tally : Tally)
    → nat_abs (after_cells agg slot cells group_slots tally).sum ≤ nat_abs tally.sum
    + sum_by (λ cell. nat_abs (cell_tally agg cell).sum) cells
after-size agg slot [] group_slots tally = omega arith
after-size agg slot (cell ∷ cells) [] tally = omega arith
after-size agg slot (cell ∷ cells) (None ∷ group_slots) tally =
    omega (
      arith,
      after-size agg slot cells group_slots tally,
      sum_by-cons (λ (own : Cell). nat_abs (cell_tally agg own).sum) cell cells,
    )
after-size agg slot (cell ∷ cells) (Some other ∷ group_slots) tally =
    let new = merged_tally tally (cell_tally agg cell) in
    let sum = sum_by-cons (λ (own : Cell). nat_abs (cell_tally agg own).sum) cell cells in
    elim (other == slot) as
    (λ b. nat_abs (after_cells agg slot cells group_slots (cond b new tally)).sum ≤ nat_abs tally.sum
    + sum_by (λ own. nat_abs (cell_tally agg own).sum) (cell ∷ cells)) [
      | true ↦ omega (arith, after-size agg slot cells group_slots new, merged-sum tally (cell_tally agg cell), sum)
      | false ↦ omega (arith, after-size agg slot cells group_slots tally, sum)
    ]

-- tallies that have room for cells have it for each of them after those before
module _ (cells : List Cell) (place : ℕ) (h : place < length cells) (slot : ℕ) (group_slots : List (Option ℕ)) where
  one_next : (agg : Agg) (tally : Tally) → HasRoomForCells agg cells tally
      → HasRoomForCells agg (get_or cells place no_cell ∷ [])
      (after_cells agg slot (take place cells) group_slots tally)
  one_next agg tally room =
      let count = λ (cell : Cell). cell.count in
      let size = λ (cell : Cell). nat_abs (cell_tally agg cell).sum in
      let cell = get_or cells place no_cell in
      record {
        few = omega (
          arith,
          room.few,
          after-count agg slot (take place cells) group_slots tally,
          sum_by_more_le count cells place no_cell h,
          sum_by-cons count cell [],
        );
        small = omega (
          arith,
          room.small,
          after-size agg slot (take place cells) group_slots tally,
          sum_by_more_le size cells place no_cell h,
          sum_by-cons size cell [],
        );
      }

  pub room_next : (aggs : List Agg) (tallies : List Tally) → HaveRoomFor aggs cells tallies
      → HaveRoomFor aggs (get_or cells place no_cell ∷ []) (with_cells aggs slot (take place cells) group_slots tallies)
  room_next [] tallies room = tt
  room_next (agg ∷ aggs) [] room = tt
  room_next (agg ∷ aggs) (tally ∷ tallies) room = (one_next agg tally room.0, room_next aggs tallies room.1)

pub room_in : (slot : ℕ) (cells : List Cell) (aggs : List Agg) (columns : List (Vec Tally Global))
    → length columns ≡ length aggs → HaveRoomFor aggs cells (tallies_at columns slot)
    → (k : ℕ) → k < length aggs → (agg : Agg) (column : Vec Tally Global)
    → HasRoomForCells (get_or aggs k agg) cells (tally_at (get_or columns k column).items slot)
room_in slot cells [] columns same room k h agg column = absurd (omega (arith, h))
room_in slot cells (first ∷ aggs) [] same room k h agg column = absurd (omega (arith, same))
room_in slot cells (first ∷ aggs) (one ∷ columns) same room zero h agg column = room.0
room_in slot cells (first ∷ aggs) (one ∷ columns) same room (suc k) h agg column =
    room_in slot cells aggs columns (omega (arith, same)) room.1 k (omega (arith, h)) agg column

-- ---- a slot of no cell
untouched : (agg : Agg) (slot bound : ℕ) (cells : List Cell) (group_slots : List (Option ℕ)) (tally : Tally)
    → SlotsAreBelow bound group_slots → bound ≤ slot
    → after_cells agg slot cells group_slots tally ≡ tally
untouched agg slot bound [] group_slots tally below h = refl
untouched agg slot bound (cell ∷ cells) [] tally below h = refl
untouched agg slot bound (cell ∷ cells) (None ∷ group_slots) tally below h =
    untouched agg slot bound cells group_slots tally (λ place own at. below (suc place) own at) h
untouched agg slot bound (cell ∷ cells) (Some other ∷ group_slots) tally below h =
    let low = below 0 other refl in
    let apart : other ≢ slot = omega (arith, low, h) in
    let test : (other == slot) ≡ false = grind (arith, nat_tests) in
    ap (λ (b : Bool). after_cells agg slot cells group_slots (cond b (merged_tally tally (cell_tally agg cell)) tally))
    test
    ∙ untouched agg slot bound cells group_slots tally (λ place own at. below (suc place) own at) h

pub all_untouched : (aggs : List Agg) (slot bound : ℕ) (cells : List Cell) (group_slots : List (Option ℕ))
    (rows : List LineOrder) → SlotsAreBelow bound group_slots → bound ≤ slot
    → with_cells aggs slot cells group_slots (tallies_of aggs rows) ≡ tallies_of aggs rows
all_untouched [] slot bound cells group_slots rows below h = refl
all_untouched (agg ∷ aggs) slot bound cells group_slots rows below h =
    λ i. untouched agg slot bound cells group_slots (tally_of (map (aggregated agg) rows)) below h i
    ∷ all_untouched aggs slot bound cells group_slots rows below h i
