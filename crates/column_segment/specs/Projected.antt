-- Some columns of a batch, read without the others. Our own.
use Rattle.std.specs.Prelude.{◌≡◌, ℕ, ◌+◌, ◌*◌, ◌^◌, ◌<◌, ◌≤◌, true, Option, Some, List, All, map, length, slice_index}
use Rattle.std.specs.List.{AllByRecursion}
use Rattle.column_kernels.specs.Checks.{all_below}
use Rattle.cube_model.specs.declared.rows.LineOrder.{LineOrder}
use Rattle.column_segment.specs.declared.columns.FactColumn.{FactColumn}
use Rattle.column_segment.specs.Columns.{fact_value, width_of}
use Rattle.column_segment.specs.Decoded.{amounts_in, column_bytes, fact_place}
use Rattle.column_segment.specs.Reading.{HasHeader}
use Rattle.column_segment.specs.Segment.{IsSegment}

-- two batches have as many rows as each other, and the same numbers in some columns
pub record AgreeOn (columns : List FactColumn) (rows others : List LineOrder) : Type 0 where
  pub count : length rows ≡ length others
  pub each : AllByRecursion (λ column. map (fact_value column) rows ≡ map (fact_value column) others) columns

-- the bytes have the same numbers in a column
abbrev pub ShareColumn : ℕ → List ℕ → List ℕ → FactColumn → Type 0
ShareColumn rows bytes others column =
    column_bytes (fact_place column) (width_of column) rows bytes ≡ column_bytes (fact_place column) (width_of column)
    rows
    others

-- what is outside of so many bytes from a place on stays
pub record StaysOutside (at count : ℕ) (old new : List ℕ) : Type 0 where
  pub long : length new ≡ length old
  pub front : (place : ℕ) → place < at → slice_index new place ≡ slice_index old place
  pub back : (place : ℕ) → at + count ≤ place → slice_index new place ≡ slice_index old place

-- a text begins with the header of a batch, and has room after it for the columns of numbers
pub record HasColumns (text : List ℕ) (number rows : ℕ) : Type 0 where
  pub header : HasHeader text number rows
  pub room : 12 + 63 * rows ≤ length text

-- the quantities and the discounts of rows fit a byte
pub record HaveSmallFigures (rows : List LineOrder) : Type 0 where
  pub quantities : All (λ row. row.quantity < 2 ^ 8) rows
  pub discounts : All (λ row. row.discount < 2 ^ 8) rows

-- there is no text, or it is that of no batch of a number and of so many rows
abbrev pub HoldsNoneOf : Option (List ℕ) → ℕ → ℕ → Type 0
HoldsNoneOf text number count = (bytes : List ℕ) (rows : List LineOrder) → text ≡ Some bytes → length rows ≡ count
    → IsSegment bytes number rows → ⊥

-- each number of a column is one: those of all but the amounts are
abbrev pub FitsColumnIn : List ℕ → ℕ → FactColumn → Type 0
FitsColumnIn bytes rows column = width_of column ≡ 8 → all_below (2 ^ 63) (amounts_in bytes rows column) ≡ true
