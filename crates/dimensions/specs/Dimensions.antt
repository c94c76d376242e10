-- A dimension by codes, with the ranks of its members, and what adding rows to it comes to.
use Rattle.std.specs.Prelude.{◌≡◌, ℕ, suc, ◌<◌, ◌⊎◌, Bool, Option, Some, None, Result, MatchResult, List, [], ◌∷◌, ◌++◌}
use Rattle.std.specs.Prelude.{map, length, slice_index_or}
use Rattle.std.specs.Option.{option_map}
use Rattle.cube_model.specs.declared.attr.Axis.{Axis}
use Rattle.cube_model.specs.declared.fault.Fault.{Fault}
use Rattle.cube_model.specs.declared.fault.Fault.TheVariants.{Memory}
use Rattle.cube_model.specs.Limits.{most_members}
use Rattle.cube_model.specs.Validity.{row_cause, dimension_cause}
use Rattle.dimensions.specs.declared.coded.CodedColumn.{CodedColumn}
use Rattle.dimensions.specs.declared.column.Column.{Column}
use Rattle.dimensions.specs.declared.dimension.Dimension.{Dimension}
use Rattle.dimensions.specs.Added.{added_cause}
use Rattle.dimensions.specs.TextRows.{KeysFit, TextRow, text_in, column_of}
use Rattle.dimensions.specs.Shapes.{lowers_of, lower_of, text_rules}
use Rattle.dimensions.specs.Columns.{IsColumn, HasCode, HasNoCodeLeft, Enters, column_of_coded}

-- the column with a number (an empty one after the last)
abbrev pub no_column : Column
no_column = record { lower = None; texts = record { texts = []; limit = most_members }; codes = []; ranks = [] }

abbrev pub column_at : Dimension → ℕ → Column
column_at dimension column = slice_index_or dimension.columns.items column no_column

-- the columns of a dimension from those by codes, the first of which has a number
abbrev pub columns_from : Axis → ℕ → List CodedColumn → List Column
columns_from axis i [] = []
columns_from axis i (coded ∷ others) = column_of_coded (lower_of axis i) coded ∷ columns_from axis (suc i) others

-- the texts of the lower column of a column
abbrev pub lower_texts : Axis → ℕ → List TextRow → Option (List (List ℕ))
lower_texts axis column rows = option_map (λ lower. column_of lower rows) (lower_of axis column)

-- a dimension stores some rows by codes
pub record StoresRows (axis : Axis) (rows : List TextRow) (dimension : Dimension) : Type 0 where
  pub keys : dimension.keys ≡ map (λ row. row.key) rows
  pub fit : KeysFit rows
  pub count : length dimension.columns.items ≡ length (lowers_of axis)
  pub lowers : (i : ℕ) → i < length (lowers_of axis) → (column_at dimension i).lower ≡ lower_of axis i
  pub columns : (i : ℕ) → i < length (lowers_of axis)
      → IsColumn (column_of i rows) (lower_texts axis i rows) (column_at dimension i)

-- the same of some rows that a caller does not name
abbrev pub StoresSomeRows : Axis → Dimension → Type 0
StoresSomeRows axis dimension = (rows : List TextRow) × StoresRows axis rows dimension

-- a dimension is that of some rows: it stores them, and ranks the texts of each column
pub record IsDimension (axis : Axis) (rows : List TextRow) (dimension : Dimension) : Type 0 where
  pub stores : StoresRows axis rows dimension
  pub ranks : (i : ℕ) → i < length dimension.columns.items
      → (column_at dimension i).ranks ≡ (column_at dimension i).texts.texts

-- the same of some rows that a caller does not name
abbrev pub IsSomeDimension : Axis → Dimension → Type 0
IsSomeDimension axis dimension = (rows : List TextRow) × IsDimension axis rows dimension

-- the codes of a row's texts
abbrev pub Numbers : Dimension → TextRow → List ℕ → Type 0
Numbers dimension row codes = (i : ℕ) → i < length dimension.columns.items
    → HasCode (column_at dimension i).texts (text_in i row) (slice_index_or codes i 0)

-- some column has no room for a row's text
abbrev pub HasNoRoom : Dimension → TextRow → Type 0
HasNoRoom dimension row = (i : ℕ) × (i < length dimension.columns.items)
    × HasNoCodeLeft (column_at dimension i).texts (text_in i row)

-- where a row's code is in a column: at the row, or at the row's code in the lower column
abbrev pub place_for : Option ℕ → ℕ → List ℕ → ℕ
place_for None row codes = row
place_for (Some lower) row codes = slice_index_or codes lower 0

-- a column takes a row's text, or not
abbrev pub EntersAt : Dimension → TextRow → List ℕ → ℕ → Bool → Column → Type 0
EntersAt dimension row codes i fits new =
    Enters (column_at dimension i) (place_for (column_at dimension i).lower (length dimension.keys) codes)
    (text_in i row) (slice_index_or codes i 0) fits new

-- what adding a row comes to: one row more, or the first cause to refuse it
abbrev pub AddsRow : Axis → List TextRow → TextRow → Dimension → Result (Unit {0}) Fault → Type 0
AddsRow axis rows row new result = MatchResult result
    (λ _. StoresRows axis (rows ++ row ∷ []) new × (row_cause (text_rules axis) rows row ≡ None))
    (λ fault. (fault ≡ Memory) ⊎ (row_cause (text_rules axis) rows row ≡ Some fault))

-- a dimension is that of rows which there is no cause to refuse
abbrev pub HoldsDimension : Axis → List TextRow → Dimension → Type 0
HoldsDimension axis rows dimension = IsDimension axis rows dimension × (dimension_cause (text_rules axis) rows ≡ None)

-- a dimension of rows, or the first cause to refuse them
abbrev pub BuildsDimension : Axis → List TextRow → Result Dimension Fault → Type 0
BuildsDimension axis rows result = MatchResult result
    (HoldsDimension axis rows)
    (λ fault. (fault ≡ Memory) ⊎ (dimension_cause (text_rules axis) rows ≡ Some fault))

-- a dimension of rows and of others after them, or the first cause to refuse the others
abbrev pub ExtendsDimension : Axis → List TextRow → List TextRow → Result Dimension Fault → Type 0
ExtendsDimension axis old new result = MatchResult result
    (HoldsDimension axis (old ++ new))
    (λ fault. (fault ≡ Memory) ⊎ (added_cause (text_rules axis) old new ≡ Some fault))

-- a dimension stores rows which there is no cause to refuse
abbrev pub HoldsRows : Axis → List TextRow → Dimension → Type 0
HoldsRows axis rows dimension = StoresRows axis rows dimension × (dimension_cause (text_rules axis) rows ≡ None)

-- the same of some rows that a caller does not name
abbrev pub HoldsSomeRows : Axis → Dimension → Type 0
HoldsSomeRows axis dimension = (rows : List TextRow) × HoldsRows axis rows dimension

-- what adding rows comes to: the dimension of all of them, or the first cause to refuse those added
abbrev pub AddsRows : Axis → List TextRow → List TextRow → Dimension → Result (Unit {0}) Fault → Type 0
AddsRows axis old new dimension result = MatchResult result
    (λ _. HoldsDimension axis (old ++ new) dimension)
    (λ fault. (fault ≡ Memory) ⊎ (added_cause (text_rules axis) old new ≡ Some fault))
