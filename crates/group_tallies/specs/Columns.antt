-- Tallies in columns, one column for each aggregate, each with a tally at each slot. Our own.
use Rattle.std.specs.Prelude.{◌≡◌, ℕ, ◌+◌, ◌^◌, ◌<◌, ◌≤◌, ◌==◌, ◌&&◌, Bool, true, false, cond, ℤ, nat_abs, nat_lt, List}
use Rattle.std.specs.Prelude.{[], ◌∷◌, ◌++◌, map, length, Option, Some, None, slice_index_or, slice_get}
use Rattle.std.specs.List.{sum_by, list_all, filter}
use Rattle.std.specs.declared.alloc.Global.{Global}
use Rattle.std.specs.declared.vec.Vec.{Vec}
use Rattle.cube_model.specs.declared.answer.Line.{Line}
use Rattle.cube_model.specs.declared.answer.Member.{Member}
use Rattle.cube_model.specs.declared.measure.Agg.{Agg}
use Rattle.cube_model.specs.declared.rows.LineOrder.{LineOrder}
use Rattle.group_tallies.specs.declared.tally.Tally.{Tally}
use Rattle.group_tallies.specs.Tallies.{aggregated, tally_of, tally_with, values_of}

-- the tally of no number
abbrev pub no_tally : Tally
no_tally = tally_of []

-- a tally with one number more, where it may be that of none
abbrev pub tally_after : Tally → ℤ → Tally
tally_after tally number = cond (tally.count == 0) (tally_of (number ∷ [])) (tally_with tally number)

-- the tally at a slot of a column: that of no number after the last
abbrev pub tally_at : List Tally → ℕ → Tally
tally_at column slot = slice_index_or column slot no_tally

-- the tallies at a slot, one for each column
abbrev pub tallies_at : List (Vec Tally Global) → ℕ → List Tally
tallies_at columns slot = map (λ column. tally_at column.items slot) columns

-- tallies of some row, and not of none
abbrev pub is_seen : List Tally → Bool
is_seen [] = false
is_seen (tally ∷ tallies) = list_all (λ one. nat_lt 0 one.count) (tally ∷ tallies)

-- the groups that have rows, each by its number and its slot
abbrev pub seen_entries : (ℕ → List Tally) → List (ℕ × ℕ) → List (ℕ × ℕ)
seen_entries tallies entries = filter (λ entry. is_seen (tallies entry.1)) entries

-- the groups that have rows: the key of each number, and the tallies at its slot
abbrev pub seen_groups : (ℕ → List Member) → (ℕ → List Tally) → List (ℕ × ℕ) → List (List Member × List Tally)
seen_groups key tallies [] = []
seen_groups key tallies (entry ∷ entries) =
    cond (is_seen (tallies entry.1)) ((key entry.0, tallies entry.1) ∷ seen_groups key tallies entries)
    (seen_groups key tallies entries)

-- the rows whose group has a slot
abbrev pub slotted : ℕ → List LineOrder → List (Option ℕ) → List LineOrder
slotted slot [] group_slots = []
slotted slot (row ∷ rows) [] = []
slotted slot (row ∷ rows) (None ∷ group_slots) = slotted slot rows group_slots
slotted slot (row ∷ rows) (Some other ∷ group_slots) =
    cond (other == slot) (row ∷ slotted slot rows group_slots) (slotted slot rows group_slots)

-- rows whose count and whose sum fit a tally
pub record IsCountable (agg : Agg) (rows : List LineOrder) : Type 0 where
  pub few : length rows < 2 ^ 63
  pub small : sum_by (λ row. nat_abs (aggregated agg row)) rows < 2 ^ 63

-- the rows whose group has a slot
abbrev pub rows_with_slots : List LineOrder → List (Option ℕ) → List LineOrder
rows_with_slots [] group_slots = []
rows_with_slots (row ∷ rows) [] = []
rows_with_slots (row ∷ rows) (None ∷ group_slots) = rows_with_slots rows group_slots
rows_with_slots (row ∷ rows) (Some slot ∷ group_slots) = row ∷ rows_with_slots rows group_slots

-- the sum of the absolute values of what an aggregate is taken of
abbrev pub aggregate_size : Agg → List LineOrder → ℕ
aggregate_size agg rows = sum_by (λ row. nat_abs (aggregated agg row)) rows

-- a tally can take so many numbers more, whose absolute values have a sum
abbrev pub can_add : Tally → ℕ → ℕ → Bool
can_add tally count size = nat_lt (tally.count + count) (2 ^ 63) && nat_lt (nat_abs tally.sum + size) (2 ^ 63)

-- the slot of each row lies in the column, and its tally can take all rows that have a slot
pub record HasRoom (agg : Agg) (column : List Tally) (rows : List LineOrder) (group_slots : List (Option ℕ)) : Type 0
  where
    pub small : aggregate_size agg (rows_with_slots rows group_slots) < 2 ^ 63
    pub each : (place slot : ℕ) → slice_get group_slots place ≡ Some (Some slot)
        → (slot < length column)
        × (can_add (tally_at column slot) (length rows) (aggregate_size agg (rows_with_slots rows group_slots)) ≡ true)

-- no tally counts more than the rows more, nor has its sum gone further than by theirs
abbrev pub IsBounded : Agg → List LineOrder → List (Option ℕ) → List Tally → List Tally → Type 0
IsBounded agg rows group_slots old new = (slot : ℕ)
    → ((tally_at new slot).count ≤ (tally_at old slot).count + length rows)
    × (nat_abs (tally_at new slot).sum ≤ nat_abs (tally_at old slot).sum
    + aggregate_size agg (rows_with_slots rows group_slots))

-- the rows are counted in, each at its slot
abbrev pub CountsIn : Agg → List LineOrder → List (Option ℕ) → List Tally → List Tally → Type 0
CountsIn agg rows group_slots old new = (slot : ℕ) (before : List LineOrder)
    → tally_at old slot ≡ tally_of (map (aggregated agg) before)
    → tally_at new slot ≡ tally_of (map (aggregated agg) (before ++ slotted slot rows group_slots))

-- the line of a key and its tallies
abbrev pub line_with : List Agg → List Member × List Tally → Line
line_with aggs entry = record { key = entry.0; values = values_of aggs entry.1 }

-- the line of a group, by its number and its slot
abbrev pub entry_line : (ℕ → List Member) → List Agg → List (Vec Tally Global) → ℕ × ℕ → Line
entry_line key aggs columns entry = line_with aggs (key entry.0, tallies_at columns entry.1)
