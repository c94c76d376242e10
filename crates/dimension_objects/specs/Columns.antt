-- Columns by codes that are filled while they are read. Our own.
use Rattle.std.specs.Prelude.{◌≡◌, ◌≢◌, ℕ, ◌^◌, ◌<◌, Option, Some, None, List, ◌++◌, length, slice_index_or}
use Rattle.std.specs.List.{AllByRecursion}
use Rattle.cube_model.specs.declared.attr.Axis.{Axis}
use Rattle.cube_model.specs.Lawful.{EachPair}
use Rattle.cube_model.specs.Limits.{most_members}
use Rattle.dictionary.specs.Spelling.{AreProper}
use Rattle.dictionary.specs.Columns.{codes_spelling}
use Rattle.dimensions.specs.declared.coded.CodedColumn.{CodedColumn}
use Rattle.dimensions.specs.declared.coded.CodedRows.{CodedRows}
use Rattle.dimensions.specs.TextRows.{TextRow}
use Rattle.dimensions.specs.Shapes.{lowers_of, lower_of}
use Rattle.dimensions.specs.Coded.{AreGoodRows, ColumnsHaveTexts, no_coded, place_total}
use Rattle.dimensions.specs.TextRows.{KeysFit}
use Rattle.dimension_objects.specs.Spelled.{Parts, codes_in_order, dimension_spelling, dimension_header}
use Rattle.dimension_objects.specs.Spelled.{keys_spelling, linked_columns, parts_spelling, row_columns, texts_in_order}

-- the texts and the codes of a column with a number
abbrev pub column_texts_in : List CodedColumn → ℕ → List (List ℕ)
column_texts_in columns column = (slice_index_or columns column no_coded).texts.texts

abbrev pub column_codes_in : List CodedColumn → ℕ → List ℕ
column_codes_in columns column = (slice_index_or columns column no_coded).codes

-- how many places a column has, where there are so many rows
abbrev pub places_of : ℕ → List CodedColumn → Option ℕ → ℕ
places_of rows columns None = rows
places_of rows columns (Some lower) = length (column_texts_in columns lower)

-- numbers of columns that are all there, none of them twice
pub record IsOrderOfColumns (count : ℕ) (order : List ℕ) : Type 0 where
  pub within : AllByRecursion (λ column. column < count) order
  pub distinct : EachPair (λ column other. column ≢ other) order

-- a header was read from the front of `old`, and `new` is left
pub record ReadsDimensionHeader (axis : Axis) (old new : List ℕ) (rows : ℕ) : Type 0 where
  pub fits : rows < 2 ^ 32
  pub spelled : old ≡ dimension_header axis rows ++ new

-- the bytes begin with no header
abbrev pub BeginsWithNoHeader : Axis → List ℕ → Type 0
BeginsWithNoHeader axis bytes = (rows : ℕ) (rest : List ℕ) → bytes ≢ dimension_header axis rows ++ rest

-- the texts of columns were read from the front of `bytes`, and `left` is left
pub record ReadsColumnTexts (order bytes left : List ℕ) (old new : List CodedColumn) : Type 0 where
  pub spelled : bytes ≡ texts_in_order (column_texts_in new) order ++ left
  pub count : length new ≡ length old
  pub have : ColumnsHaveTexts new

-- the bytes begin with no proper texts of columns
abbrev pub BeginsWithNoTexts : List ℕ → List ℕ → Type 0
BeginsWithNoTexts order bytes = (texts : ℕ → List (List ℕ)) (rest : List ℕ)
    → AllByRecursion (λ column. AreProper most_members (texts column)) order
    → bytes ≢ texts_in_order texts order ++ rest

-- so many codes were read from the front of `old`, and `new` is left
pub record ReadsCodes (count : ℕ) (old new codes : List ℕ) : Type 0 where
  pub many : length codes ≡ count
  pub fit : AllByRecursion (λ code. code < 2 ^ 16) codes
  pub spelled : old ≡ codes_spelling codes ++ new

-- the codes of columns were read from the front of `bytes`, and `left` is left. The other columns are as they were
pub record ReadsColumns (axis : Axis) (rows : ℕ) (order bytes left : List ℕ) (old new : List CodedColumn) : Type 0 where
  pub spelled : bytes ≡ codes_in_order (column_codes_in new) order ++ left
  pub many : AllByRecursion (λ column. length (column_codes_in new column) ≡ places_of rows old (lower_of axis column))
      order
  pub fit : AllByRecursion (λ column. AllByRecursion (λ code. code < 2 ^ 16) (column_codes_in new column)) order
  pub count : length new ≡ length old
  pub have : ColumnsHaveTexts new
  pub texts_stay : (column : ℕ) → column_texts_in new column ≡ column_texts_in old column
  pub others_stay : (column : ℕ) → AllByRecursion (λ other. other ≢ column) order
      → column_codes_in new column ≡ column_codes_in old column

-- the bytes begin with no such codes
abbrev pub BeginsWithNoCodes : Axis → ℕ → List ℕ → List CodedColumn → List ℕ → Type 0
BeginsWithNoCodes axis rows order columns bytes = (numbers : ℕ → List ℕ) (rest : List ℕ)
    → AllByRecursion (λ column. length (numbers column) ≡ places_of rows columns (lower_of axis column)) order
    → bytes ≢ codes_in_order numbers order ++ rest

-- so many keys were read from the front of `old`, and `new` is left
pub record ReadsKeys (count : ℕ) (old new keys : List ℕ) : Type 0 where
  pub many : length keys ≡ count
  pub fit : AllByRecursion (λ key. key < 2 ^ 32) keys
  pub spelled : old ≡ keys_spelling keys ++ new

-- the parts of rows by codes
abbrev pub coded_parts : CodedRows → Parts
coded_parts coded =
    record { keys = coded.keys; texts = column_texts_in coded.columns; codes = column_codes_in coded.columns }

-- bytes are those of rows by codes, as far as that shows with no rule looked at
pub record IsSpelled (axis : Axis) (bytes : List ℕ) (coded : CodedRows) : Type 0 where
  pub spelled : bytes ≡ parts_spelling axis (coded_parts coded)
  pub rows_fit : length coded.keys < 2 ^ 32
  pub keys_fit : AllByRecursion (λ key. key < 2 ^ 32) coded.keys
  pub count : length coded.columns ≡ length (lowers_of axis)
  pub have : ColumnsHaveTexts coded.columns
  pub linked_many : AllByRecursion
      (λ column. length (column_codes_in coded.columns column) ≡ place_total coded (lower_of axis column))
      (linked_columns axis)
  pub linked_fit : AllByRecursion
      (λ column. AllByRecursion (λ code. code < 2 ^ 16) (column_codes_in coded.columns column))
      (linked_columns axis)
  pub rows_many : AllByRecursion
      (λ column. length (column_codes_in coded.columns column) ≡ place_total coded (lower_of axis column))
      (row_columns axis)
  pub codes_fit : AllByRecursion
      (λ column. AllByRecursion (λ code. code < 2 ^ 16) (column_codes_in coded.columns column))
      (row_columns axis)

-- no rows that keep the rules have these bytes
abbrev pub SpellsNoRows : Axis → List ℕ → Type 0
SpellsNoRows axis bytes = (rows : List TextRow) → AreGoodRows axis rows → KeysFit rows
    → bytes ≢ dimension_spelling axis rows
