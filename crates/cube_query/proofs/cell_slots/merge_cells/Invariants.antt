use Rattle.std.proofs.Common.{◌≡◌, ℕ, ◌≤◌, List, length, take}
use Rattle.group_numbers.specs.Numbers.{group_count}
use Rattle.cube_query.specs.CellSlots.{AreMergedIn}
use Rattle.group_tallies.specs.Columns.{tallies_at}
use Rattle.group_tallies.specs.Slots.{entries_of, Cover, Grow}
use Rattle.cube_query.proofs.cell_slots.merge_cells.Given as goal

abbrev pub invariant-loop-place : goal.invariant-loop-place
invariant-loop-place l = AreMergedIn l.numbers l.aggs (entries_of l.slots) (take l.place l.cells) l.initial.columns
    l.columns
    × (length l.columns ≡ length l.initial.columns)
    × Cover (group_count l.numbers.dimensions l.numbers.query.columns) l.slots
    × ((first : List (ℕ × ℕ))
    → Grow (group_count l.numbers.dimensions l.numbers.query.columns) first (entries_of l.initial.slots)
    → Grow (group_count l.numbers.dimensions l.numbers.query.columns) first (entries_of l.slots))
    × ((first : List (ℕ × ℕ))
    → Grow (group_count l.numbers.dimensions l.numbers.query.columns) first (entries_of l.initial.slots)
    → (slot : ℕ) → length (entries_of l.slots) ≤ slot → tallies_at l.columns slot ≡ tallies_at l.initial.columns slot)
