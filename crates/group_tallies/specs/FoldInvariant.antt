-- How the slots and the columns of a fold relate to the fact rows that were counted in. Our own.
use Rattle.std.specs.Prelude.{◌≡◌, ℕ, ◌≤◌, ◌<◌, false, Option, Some, None, List, [], ◌∷◌, ◌++◌, length, map}
use Rattle.std.specs.Prelude.{slice_index_or}
use Rattle.std.specs.List.{range_with_len}
use Rattle.std.specs.declared.alloc.Global.{Global}
use Rattle.std.specs.declared.vec.Vec.{Vec}
use Rattle.cube_model.specs.declared.answer.Member.{Member}
use Rattle.cube_model.specs.declared.measure.Agg.{Agg}
use Rattle.cube_model.specs.declared.query.Query.{Query}
use Rattle.cube_model.specs.declared.rows.DimRows.{DimRows}
use Rattle.cube_model.specs.declared.rows.LineOrder.{LineOrder}
use Rattle.cube_model.specs.Proper.{IsProper}
use Rattle.cube_model.specs.Selection.{is_selected}
use Rattle.group_tallies.specs.Columns.{tallies_at, slotted, HasRoom}
use Rattle.group_tallies.specs.Groups.{rows_at}
use Rattle.group_numbers.specs.Numbers.{group_count, group_key_at, KeysRise, IsGroupNumber}
use Rattle.group_numbers.specs.GroupNumbers.{count_of, query_of}
use Rattle.group_numbers.specs.declared.group_numbers.GroupNumbers.{GroupNumbers}
use Rattle.group_tallies.specs.Slots.{slot_of, entries_of, AreSlots, Cover}
use Rattle.group_tallies.specs.Tallies.{tallies_of}
use Rattle.group_tallies.specs.declared.slots.Slots.{Slots}
use Rattle.group_tallies.specs.declared.tally.Tally.{Tally}

-- the slot of a fact row's group, and none where the row is not selected
abbrev pub IsGroupSlot : DimRows → Query → List (ℕ × ℕ) → LineOrder → Option ℕ → Type 0
IsGroupSlot dimensions query entries row None = is_selected dimensions query.conditions row ≡ false
IsGroupSlot dimensions query entries row (Some slot) =
    (number : ℕ) × IsGroupNumber dimensions query row (Some number) × (slot_of entries number ≡ Some slot)

-- the slots of the groups of fact rows
abbrev pub AreGroupSlots : DimRows → Query → List (ℕ × ℕ) → List LineOrder → List (Option ℕ) → Type 0
AreGroupSlots dimensions query entries [] [] = Unit {0}
AreGroupSlots dimensions query entries [] (group_slot ∷ group_slots) = ⊥
AreGroupSlots dimensions query entries (row ∷ rows) [] = ⊥
AreGroupSlots dimensions query entries (row ∷ rows) (group_slot ∷ group_slots) =
    IsGroupSlot dimensions query entries row group_slot × AreGroupSlots dimensions query entries rows group_slots

-- each column has room for the rows
abbrev pub HaveRoom : List Agg → List (Vec Tally Global) → List LineOrder → List (Option ℕ) → Type 0
HaveRoom aggs columns rows group_slots = (k : ℕ) → k < length aggs → (agg : Agg) (column : Vec Tally Global)
    → HasRoom (slice_index_or aggs k agg) (slice_index_or columns k column).items rows group_slots

-- the rows are counted in, each at its slot
abbrev pub CountIn : List Agg → List LineOrder → List (Option ℕ) → List (Vec Tally Global)
    → List (Vec Tally Global) → Type 0
CountIn aggs rows group_slots old new = (slot : ℕ) (before : List LineOrder)
    → tallies_at old slot ≡ tallies_of aggs before
    → tallies_at new slot ≡ tallies_of aggs (before ++ slotted slot rows group_slots)

-- each slot has the tallies over the rows of its number's key, and the key of each selected row has a slot
pub record AreTallied (dimensions : DimRows) (query : Query) (entries : List (ℕ × ℕ)) (columns : List
    (Vec Tally Global))
    (rows : List LineOrder) : Type 0 where
  pub each : (number slot : ℕ) → slot_of entries number ≡ Some slot
      → tallies_at columns slot
      ≡ tallies_of query.aggregates (rows_at dimensions query (group_key_at dimensions query.columns number) rows)
  pub others : (key : List Member)
      → ((number slot : ℕ) → slot_of entries number ≡ Some slot → group_key_at dimensions query.columns number ≡ key
      → ⊥)
      → rows_at dimensions query key rows ≡ []
  pub fresh : (slot : ℕ) → length entries ≤ slot → tallies_at columns slot ≡ tallies_of query.aggregates []

-- the tallies at a slot: those of no row where there is none
abbrev pub tallies_or_none : Query → List (Vec Tally Global) → Option ℕ → List Tally
tallies_or_none query columns None = tallies_of query.aggregates []
tallies_or_none query columns (Some slot) = tallies_at columns slot

-- the tallies at the number of a group
abbrev pub tallies_in : Query → Slots → List (Vec Tally Global) → ℕ → List Tally
tallies_in query slots columns number = tallies_or_none query columns (slot_of (entries_of slots) number)

-- the tallies at the number of each group
abbrev pub all_tallies : GroupNumbers → Slots → List (Vec Tally Global) → List (List Tally)
all_tallies grouping slots columns =
    map (tallies_in (query_of grouping) slots columns) (range_with_len 0 (count_of grouping))

-- what a fold keeps, over any dimensions: slots for numbers below the count of groups, and no row after the last slot
pub record IsKept (grouping : GroupNumbers) (slots : Slots) (columns : List (Vec Tally Global)) : Type 0 where
  pub proper : IsProper (query_of grouping)
  pub numbers : AreSlots (count_of grouping) (entries_of slots)
  pub cover : Cover (count_of grouping) slots
  pub fresh : (slot : ℕ) → length (entries_of slots) ≤ slot
      → tallies_at columns slot ≡ tallies_of (query_of grouping).aggregates []

-- what holds of each fold over its dimensions
pub record IsFold (dimensions : DimRows) (query : Query) (slots : Slots) (columns : List
    (Vec Tally Global)) : Type 0 where
  pub proper : IsProper query
  pub rising : KeysRise dimensions query.columns
  pub numbers : AreSlots (group_count dimensions query.columns) (entries_of slots)
  pub cover : Cover (group_count dimensions query.columns) slots
  pub count : length columns ≡ length query.aggregates
