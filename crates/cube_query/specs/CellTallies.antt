-- Cells of a cuboid as tallies, merged into those at the slots of their groups. Our own.
use Rattle.std.specs.Prelude.{◌≡◌, ℕ, ◌+◌, ◌^◌, ◌<◌, ◌==◌, cond, pos, nat_abs, List, [], ◌∷◌, slice_get, Option, Some}
use Rattle.std.specs.Prelude.{None}
use Rattle.std.specs.List.{sum_by}
use Rattle.std.specs.declared.alloc.Global.{Global}
use Rattle.std.specs.declared.vec.Vec.{Vec}
use Rattle.cube_model.specs.declared.measure.Agg.{Agg}
use Rattle.cube_model.specs.declared.measure.Agg.TheVariants.{Count, Sum, Min, Max, Avg}
use Rattle.cube_model.specs.declared.measure.Measure.{Measure}
use Rattle.cube_model.specs.declared.measure.Measure.TheVariants.{Quantity, ExtendedPrice, Revenue, SupplyCost}
use Rattle.cube_model.specs.declared.measure.Measure.TheVariants.{Discounted, Profit}
use Rattle.cuboid_cells.specs.declared.cell.Cell.{Cell}
use Rattle.cuboid_cells.specs.declared.summary.Summaries.{Summaries}
use Rattle.cuboid_cells.specs.declared.summary.Summary.{Summary}
use Rattle.group_tallies.specs.Columns.{tallies_at, tally_at}
use Rattle.group_tallies.specs.Slots.{slot_of}
use Rattle.group_tallies.specs.Tallies.{merged_tally}
use Rattle.group_tallies.specs.declared.tally.Tally.{Tally}

-- what is kept of a measure
abbrev pub summary_in : Summaries → Measure → Summary
summary_in measures Quantity = measures.quantity
summary_in measures ExtendedPrice = measures.extendedprice
summary_in measures Revenue = measures.revenue
summary_in measures SupplyCost = measures.supplycost
summary_in measures Discounted = measures.discounted
summary_in measures Profit = measures.profit

-- a summary over so many rows
abbrev pub counted : ℕ → Summary → Tally
counted count summary = record { count = count; sum = summary.sum; least = summary.least; greatest = summary.greatest }

-- so many zeros: a count is taken of nothing
abbrev pub noughts : ℕ → Tally
noughts count = record { count = count; sum = pos 0; least = pos 0; greatest = pos 0 }

-- the tally of the rows of a cell
abbrev pub cell_tally : Agg → Cell → Tally
cell_tally Count cell = noughts cell.count
cell_tally (Sum measure) cell = counted cell.count (summary_in cell.measures measure)
cell_tally (Min measure) cell = counted cell.count (summary_in cell.measures measure)
cell_tally (Max measure) cell = counted cell.count (summary_in cell.measures measure)
cell_tally (Avg measure) cell = counted cell.count (summary_in cell.measures measure)

-- a tally with the cells that have a slot merged in, one after another
abbrev pub after_cells : Agg → ℕ → List Cell → List (Option ℕ) → Tally → Tally
after_cells agg slot [] group_slots tally = tally
after_cells agg slot (cell ∷ cells) [] tally = tally
after_cells agg slot (cell ∷ cells) (None ∷ group_slots) tally = after_cells agg slot cells group_slots tally
after_cells agg slot (cell ∷ cells) (Some other ∷ group_slots) tally =
    after_cells agg slot cells group_slots (cond (other == slot) (merged_tally tally (cell_tally agg cell)) tally)

-- slots lie below a bound
abbrev pub SlotsAreBelow : ℕ → List (Option ℕ) → Type 0
SlotsAreBelow bound group_slots = (place slot : ℕ) → slice_get group_slots place ≡ Some (Some slot) → slot < bound

-- cells are merged in, each at its slot
abbrev pub MergesCells : Agg → List Cell → List (Option ℕ) → List Tally → List Tally → Type 0
MergesCells agg cells group_slots old new = (slot : ℕ)
    → tally_at new slot ≡ after_cells agg slot cells group_slots (tally_at old slot)

-- tallies, one for each aggregate, with the cells that have a slot merged in
abbrev pub with_cells : List Agg → ℕ → List Cell → List (Option ℕ) → List Tally → List Tally
with_cells [] slot cells group_slots tallies = []
with_cells (agg ∷ aggs) slot cells group_slots [] = []
with_cells (agg ∷ aggs) slot cells group_slots (tally ∷ tallies) =
    after_cells agg slot cells group_slots tally ∷ with_cells aggs slot cells group_slots tallies

-- a tally has room for cells: for their rows, and for the absolute values of their sums
pub record HasRoomForCells (agg : Agg) (cells : List Cell) (tally : Tally) : Type 0 where
  pub few : tally.count + sum_by (λ cell. cell.count) cells < 2 ^ 63
  pub small : nat_abs tally.sum + sum_by (λ cell. nat_abs (cell_tally agg cell).sum) cells < 2 ^ 63

-- and so it is with tallies, one for each aggregate
abbrev pub HaveRoomFor : List Agg → List Cell → List Tally → Type 0
HaveRoomFor [] cells tallies = Unit {0}
HaveRoomFor (agg ∷ aggs) cells [] = Unit {0}
HaveRoomFor (agg ∷ aggs) cells (tally ∷ tallies) = HasRoomForCells agg cells tally × HaveRoomFor aggs cells tallies

-- the tallies of each group that has a slot have room for cells
abbrev pub GroupsHaveRoomFor : List (ℕ × ℕ) → List Agg → List Cell → List (Vec Tally Global) → Type 0
GroupsHaveRoomFor entries aggs cells columns = (number slot : ℕ) → slot_of entries number ≡ Some slot
    → HaveRoomFor aggs cells (tallies_at columns slot)
