-- What a fold has in hand: tallies by the numbers of groups. Our own.
use Rattle.std.specs.Prelude.{◌≡◌, ◌⊎◌, ℕ, ◌<◌, List, [], ◌++◌, Err, IfErr, OnErr, OnOk, Result, slice_index_or}
use Rattle.cube_model.specs.declared.answer.Member.{Member}
use Rattle.cube_model.specs.declared.fault.Fault.{Fault}
use Rattle.cube_model.specs.declared.fault.Fault.TheVariants.{BadLayout, Memory}
use Rattle.cube_model.specs.declared.query.Query.{Query}
use Rattle.cube_model.specs.declared.rows.DimRows.{DimRows}
use Rattle.cube_model.specs.declared.rows.LineOrder.{LineOrder}
use Rattle.group_tallies.specs.declared.tally.Tally.{Tally}
use Rattle.group_tallies.specs.Groups.{finest, rows_at}
use Rattle.group_tallies.specs.Limits.{AreFoldable}
use Rattle.group_tallies.specs.Tallies.{tallies_of}
use Rattle.group_numbers.specs.Numbers.{group_count, group_key_at}
use Rattle.group_numbers.specs.GroupNumbers.{IsGroupNumbersOver}
use Rattle.group_numbers.specs.declared.group_numbers.GroupNumbers.{GroupNumbers}

-- a fold: its query, its group numbers, and the tallies at the number of each group by all columns, those of no row
-- among them
pub record FoldState : Type 0 where
  pub query : Query
  pub grouping : GroupNumbers
  pub tallies : List (List Tally)

-- A fold represents fact rows over dimensions: its group numbers are over these, at the number of each group it has the
-- tallies over the selected rows of that group's key, and no selected row has another key.
pub record RepresentsRows (dimensions : DimRows) (fold : FoldState) (rows : List LineOrder) : Type 0 where
  pub over : IsGroupNumbersOver dimensions fold.grouping
  pub each : (number : ℕ) → number < group_count dimensions fold.query.columns
      → slice_index_or fold.tallies number []
      ≡ tallies_of fold.query.aggregates
      (rows_at dimensions (finest fold.query) (group_key_at dimensions fold.query.columns number) rows)
  pub others : (key : List Member)
      → ((number : ℕ) → number < group_count dimensions fold.query.columns
      → group_key_at dimensions fold.query.columns number ≡ key → ⊥)
      → rows_at dimensions (finest fold.query) key rows ≡ []

-- a fold that begins: it represents no fact row
pub record Begins (dimensions : DimRows) (query : Query) (fold : FoldState) : Type 0 where
  pub query_is : fold.query ≡ query
  pub represents : RepresentsRows dimensions fold []

-- the dimensions are those of a fold's beginning
abbrev pub IsOver : DimRows → FoldState → Type 0
IsOver dimensions fold = IsGroupNumbersOver dimensions fold.grouping

-- a fold over the dimensions of its beginning: it represents some fact rows
abbrev pub IsFoldOver : DimRows → FoldState → Type 0
IsFoldOver dimensions fold = (rows : List LineOrder) × RepresentsRows dimensions fold rows

-- a fold over the dimensions of its beginning that represents fact rows that may be folded
abbrev pub IsFoldable : DimRows → FoldState → Type 0
IsFoldable dimensions fold = (rows : List LineOrder)
    × (RepresentsRows dimensions fold rows × AreFoldable dimensions rows)

-- the fold represents fact rows after which others may be added
abbrev pub CanTake : DimRows → FoldState → List LineOrder → Type 0
CanTake dimensions fold rows = (so_far : List LineOrder)
    × (RepresentsRows dimensions fold so_far × AreFoldable dimensions (so_far ++ rows))

-- the fold represents the fact rows that it represented, with others after them
pub record Takes (dimensions : DimRows) (old : FoldState) (rows : List LineOrder) (new : FoldState) : Type 0 where
  pub query : new.query ≡ old.query
  pub represents : (so_far : List LineOrder) → RepresentsRows dimensions old so_far
      → RepresentsRows dimensions new (so_far ++ rows)

-- What a call that counts fact rows into a fold leaves of it, where P is all that is known of the rows: it represents
-- them too. A refusal leaves it as it was, and BadLayout says that it can take no such rows.
pub record CountsRowsIn {A : Type 0} (dimensions : DimRows) (P : List LineOrder → Type 0) (old new : FoldState)
    (result : Result A Fault) : Type 0 where
  pub over : IsOver dimensions new
  pub query : new.query ≡ old.query
  pub ok : OnOk result ((rows : List LineOrder) → P rows → Takes dimensions old rows new)
  pub err : OnErr result (new ≡ old)
  pub refused : result ≡ Err BadLayout → (rows : List LineOrder) → P rows → CanTake dimensions old rows → ⊥
  pub only : IfErr result (λ fault. (fault ≡ Memory) ⊎ (fault ≡ BadLayout))
