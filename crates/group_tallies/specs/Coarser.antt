-- Coarser groupings, made from finer ones: column by column, from the last to the first, each group is merged into the
-- one that has ALL in that column. Our own.
use Rattle.std.specs.Prelude.{◌≡◌, ℕ, zero, suc, ◌<◌, ◌≤◌, ◌==◌, ◌&&◌, Bool, true, false, cond, Some, List, [], ◌∷◌}
use Rattle.std.specs.Prelude.{◌++◌, map, length, slice_index_or, slice_set, slice_get}
use Rattle.std.specs.List.{filter, list_any, AllByRecursion}
use Rattle.std.specs.Ordering.{eq_by_cmp}
use Rattle.std.specs.declared.alloc.Global.{Global}
use Rattle.std.specs.declared.vec.Vec.{Vec}
use Rattle.cube_model.specs.Keys.{GroupingSet, grouping_sets, key_cmp, key_under}
use Rattle.cube_model.specs.Selection.{selected}
use Rattle.cube_model.specs.declared.answer.Member.{Member}
use Rattle.cube_model.specs.declared.answer.Member.TheVariants.{All}
use Rattle.cube_model.specs.declared.attr.Attr.{Attr}
use Rattle.cube_model.specs.declared.measure.Agg.{Agg}
use Rattle.cube_model.specs.declared.query.Kind.{Kind}
use Rattle.cube_model.specs.declared.query.Kind.TheVariants.{Plain, Rollup, Cube}
use Rattle.cube_model.specs.declared.query.Query.{Query}
use Rattle.cube_model.specs.declared.rows.DimRows.{DimRows}
use Rattle.cube_model.specs.declared.rows.LineOrder.{LineOrder}
use Rattle.cube_model.specs.Keys.{is_all}
use Rattle.cube_model.specs.Proper.{IsProper}
use Rattle.group_tallies.specs.declared.slots.Slots.{Slots}
use Rattle.group_numbers.specs.Numbers.{group_count, group_key_at, KeysRise}
use Rattle.group_tallies.specs.Columns.{is_seen, tallies_at, tally_at, IsCountable}
use Rattle.group_tallies.specs.Slots.{entries_of, slot_of, AreSlots, Cover}
use Rattle.group_tallies.specs.Tallies.{aggregated, tally_of, tallies_of}
use Rattle.group_tallies.specs.declared.tally.Tally.{Tally}

-- the grouping sets in which all columns before a place are grouped, and those from there on as the query asks
abbrev pub sets_from : Kind → ℕ → List Attr → List GroupingSet
sets_from kind zero columns = grouping_sets kind columns
sets_from kind (suc i) [] = [] ∷ []
sets_from kind (suc i) (column ∷ columns) = map (λ grouping. true ∷ grouping) (sets_from kind i columns)

-- the keys of a fact row under them
abbrev pub keys_from : DimRows → Kind → ℕ → List Attr → LineOrder → List (List Member)
keys_from dimensions kind i columns row = map (key_under dimensions row columns) (sets_from kind i columns)

-- the selected fact rows of a key under them
abbrev pub rows_from : DimRows → Query → ℕ → List Member → List LineOrder → List LineOrder
rows_from dimensions query i key rows =
    filter (λ row. list_any (eq_by_cmp key_cmp key) (keys_from dimensions query.kind i query.columns row))
    (selected dimensions query.conditions rows)

-- a group from which one with ALL at a column is made: of a rollup those with ALL at all columns after it
abbrev pub leads : Kind → ℕ → List Member → Bool
leads Plain i key = false
leads Rollup i key = is_all (slice_index_or key (suc i) All)
leads Cube i key = true

-- each slot has the tallies over the rows of its number's key, and the key of each selected row has a slot
pub record AreTalliedFrom (dimensions : DimRows) (query : Query) (i : ℕ) (entries : List (ℕ × ℕ))
    (columns : List (Vec Tally Global))
    (rows : List LineOrder) : Type 0 where
  pub each : (number slot : ℕ) → slot_of entries number ≡ Some slot
      → tallies_at columns slot
      ≡ tallies_of query.aggregates (rows_from dimensions query i (group_key_at dimensions query.columns number) rows)
  pub others : (key : List Member)
      → ((number slot : ℕ) → slot_of entries number ≡ Some slot → group_key_at dimensions query.columns number ≡ key
      → ⊥)
      → rows_from dimensions query i key rows ≡ []
  pub fresh : (slot : ℕ) → length entries ≤ slot → tallies_at columns slot ≡ tallies_of query.aggregates []

-- the groups that have rows and lead to coarser ones
abbrev pub sources_of : DimRows → Query → ℕ → (ℕ → List Tally) → List (ℕ × ℕ) → List (ℕ × ℕ)
sources_of dimensions query i tallies entries =
    filter (λ entry. is_seen (tallies entry.1) && leads query.kind i (group_key_at dimensions query.columns entry.0))
    entries

-- the slot of the group with ALL at a column
abbrev pub IsTarget : DimRows → List Attr → ℕ → List (ℕ × ℕ) → ℕ × ℕ → ℕ → Type 0
IsTarget dimensions columns i entries source target = (number : ℕ) × (slot_of entries number ≡ Some target)
    × (group_key_at dimensions columns number ≡ slice_set (group_key_at dimensions columns source.0) i All)

abbrev pub AreTargets : DimRows → List Attr → ℕ → List (ℕ × ℕ) → List (ℕ × ℕ) → List ℕ → Type 0
AreTargets dimensions columns i entries [] [] = Unit {0}
AreTargets dimensions columns i entries [] (target ∷ targets) = ⊥
AreTargets dimensions columns i entries (source ∷ sources) [] = ⊥
AreTargets dimensions columns i entries (source ∷ sources) (target ∷ targets) =
    IsTarget dimensions columns i entries source target × AreTargets dimensions columns i entries sources targets

-- the rows of the sources with a target
abbrev pub gathered : ℕ → (ℕ × ℕ → List LineOrder) → List (ℕ × ℕ) → List ℕ → List LineOrder
gathered slot part [] targets = []
gathered slot part (source ∷ sources) [] = []
gathered slot part (source ∷ sources) (target ∷ targets) =
    cond (target == slot) (part source ++ gathered slot part sources targets) (gathered slot part sources targets)

-- rows are counted in, some at each slot
abbrev pub AddsIn : Agg → (ℕ → List LineOrder) → List Tally → List Tally → Type 0
AddsIn agg added old new = (slot : ℕ) (before : List LineOrder)
    → tally_at old slot ≡ tally_of (map (aggregated agg) before)
    → tally_at new slot ≡ tally_of (map (aggregated agg) (before ++ added slot))

abbrev pub AddIn : List Agg → (ℕ → List LineOrder) → List (Vec Tally Global) → List (Vec Tally Global) → Type 0
AddIn aggs added old new = (slot : ℕ) (before : List LineOrder)
    → tallies_at old slot ≡ tallies_of aggs before
    → tallies_at new slot ≡ tallies_of aggs (before ++ added slot)

-- the sources' tallies are those of some rows, and no source is a target
pub record CanMergeTallies (agg : Agg) (column : List Tally) (sources : List (ℕ × ℕ)) (targets : List ℕ)
    (part : ℕ × ℕ → List LineOrder) : Type 0 where
  pub parts : (place : ℕ) (source : ℕ × ℕ) → slice_get sources place ≡ Some source
      → (source.1 < length column) × (tally_at column source.1 ≡ tally_of (map (aggregated agg) (part source)))
  pub apart : (place other : ℕ) (source : ℕ × ℕ) (target : ℕ) → slice_get sources place ≡ Some source
      → slice_get targets other ≡ Some target → (target == source.1) ≡ false
  pub within : (place target : ℕ) → slice_get targets place ≡ Some target → target < length column

-- each target has room for what comes to it
abbrev pub HasMergeRoom : Agg → List Tally → List (ℕ × ℕ) → List ℕ → (ℕ × ℕ → List LineOrder) → Type 0
HasMergeRoom agg column sources targets part = (place target : ℕ) → slice_get targets place ≡ Some target
    → (before : List LineOrder) × (tally_at column target ≡ tally_of (map (aggregated agg) before))
    × IsCountable agg (before ++ gathered target part sources targets)

-- the same for all columns
pub record CanMergeAll (aggs : List Agg) (columns : List (Vec Tally Global)) (sources : List (ℕ × ℕ))
    (targets : List ℕ) (part : ℕ × ℕ → List LineOrder) : Type 0 where
  pub count : length columns ≡ length aggs
  pub parts : (place : ℕ) (source : ℕ × ℕ) → slice_get sources place ≡ Some source
      → AllByRecursion (λ column. source.1 < length column.items) columns × (tallies_at columns source.1
      ≡ tallies_of aggs (part source))
  pub apart : (place other : ℕ) (source : ℕ × ℕ) (target : ℕ) → slice_get sources place ≡ Some source
      → slice_get targets other ≡ Some target → (target == source.1) ≡ false
  pub within : (place target : ℕ) → slice_get targets place ≡ Some target
      → AllByRecursion (λ column. target < length column.items) columns

abbrev pub HaveMergeRoom : List Agg → List (Vec Tally Global) → List (ℕ × ℕ) → List ℕ → (ℕ × ℕ → List LineOrder)
    → Type 0
HaveMergeRoom aggs columns sources targets part = (place target : ℕ) → slice_get targets place ≡ Some target
    → (before : List LineOrder) × (tallies_at columns target ≡ tallies_of aggs before) × ((agg : Agg)
    → IsCountable agg (before ++ gathered target part sources targets))

-- rows come to the targets of some sources, in all columns
abbrev pub MergesIn : List (ℕ × ℕ) → List ℕ → List (Vec Tally Global) → List (Vec Tally Global) → Type 0
MergesIn sources targets old new = (aggs : List Agg) (part : ℕ × ℕ → List LineOrder)
    → CanMergeAll aggs old sources targets part
    → AddIn aggs (λ slot. gathered slot part sources targets) old new

-- the slots of sources and of targets lie in a column of so many tallies
pub record LieWithin (sources : List (ℕ × ℕ)) (targets : List ℕ) (len : ℕ) : Type 0 where
  pub from : (place : ℕ) (source : ℕ × ℕ) → slice_get sources place ≡ Some source → source.1 < len
  pub to : (place target : ℕ) → slice_get targets place ≡ Some target → target < len

-- the sources can be merged: their slots and those of the targets lie in each column
abbrev pub MayMerge : List (ℕ × ℕ) → List ℕ → List (Vec Tally Global) → Type 0
MayMerge sources targets columns = AllByRecursion (λ column. LieWithin sources targets (length column.items)) columns

-- the sources can be merged, with room for what comes
abbrev pub FitMerged : List (ℕ × ℕ) → List ℕ → List (Vec Tally Global) → Type 0
FitMerged sources targets columns = (aggs : List Agg) × (part : ℕ × ℕ → List LineOrder)
    × (CanMergeAll aggs columns sources targets part × HaveMergeRoom aggs columns sources targets part)

-- a fold's slots and columns from which coarser groups can be made
pub record CanCoarsen (dimensions : DimRows) (query : Query) (slots : Slots) (columns : List (Vec Tally Global)) : Type
    0 where
  pub proper : IsProper query
  pub rising : KeysRise dimensions query.columns
  pub numbers : AreSlots (group_count dimensions query.columns) (entries_of slots)
  pub cover : Cover (group_count dimensions query.columns) slots
  pub count : length columns ≡ length query.aggregates
