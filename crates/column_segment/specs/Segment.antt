-- How a batch of fact rows is stored on disk: whole columns, one after the other. Our layout.
use Rattle.std.specs.Prelude.{◌≡◌, Option, Some, ℕ, ◌<◌, ◌≤◌, ◌^◌, List, ◌++◌, length, codes, map, All}
use Rattle.std.specs.List.{AllByRecursion, flat_map}
use Rattle.cube_model.specs.Limits.{longest_text, most_batch_rows}
use Rattle.cube_model.specs.declared.rows.LineOrder.{LineOrder}
use Rattle.wire.specs.Spelling.{spelling}
use Rattle.dictionary.specs.Columns.{column_spelling}
use Rattle.column_segment.specs.declared.columns.FactColumn.{FactColumn}
use Rattle.column_segment.specs.declared.columns.TextColumn.{TextColumn}
use Rattle.column_segment.specs.Columns.{FitsColumn, fact_value, number_columns, text_columns, text_of, width_of}

-- the 12 bytes before the columns: the name, the batch's number, how many rows
abbrev pub segment_header : ℕ → ℕ → List ℕ
segment_header number rows = codes "SEG1" ++ (spelling 4 number ++ spelling 4 rows)

-- a column of numbers: that of each row
abbrev pub number_column : List LineOrder → FactColumn → List ℕ
number_column rows column = flat_map (λ row. spelling (width_of column) (fact_value column row)) rows

-- a column of texts: its dictionary, then the code of each row's text
abbrev pub text_column : List LineOrder → TextColumn → List ℕ
text_column rows column = column_spelling (map (text_of column) rows)

-- the bytes of a batch: the header, the columns of numbers, the columns of texts
abbrev pub segment_of : ℕ → List LineOrder → List ℕ
segment_of number rows =
    segment_header number (length rows)
    ++ (flat_map (number_column rows) number_columns ++ flat_map (text_column rows) text_columns)

-- the texts of a column are short
abbrev pub HaveShort : List LineOrder → TextColumn → Type 0
HaveShort rows column = All (λ row. length (text_of column row) ≤ longest_text) rows

-- the texts of a row are short
pub record HasShortFactTexts (row : LineOrder) : Type 0 where
  pub each : (column : TextColumn) → length (text_of column row) ≤ longest_text

-- the caller's part: not too many rows, and no text too long
pub record IsBatch (rows : List LineOrder) : Type 0 where
  pub few : length rows ≤ most_batch_rows
  pub short : (column : TextColumn) → HaveShort rows column

-- the numbers of the rows are within the limits of their columns
abbrev pub FitColumns : List LineOrder → Type 0
FitColumns rows = AllByRecursion (λ column. All (FitsColumn column) rows) number_columns

-- the bytes are those of a batch with its number: there is no other spelling of it
pub record IsSegment (bytes : List ℕ) (number : ℕ) (rows : List LineOrder) : Type 0 where
  pub spelled : bytes ≡ segment_of number rows
  pub number_fits : number < 2 ^ 32
  pub batch : IsBatch rows
  pub fits : FitColumns rows

-- there is no text, or it is that of no batch
abbrev pub HoldsNoBatch : Option (List ℕ) → Type 0
HoldsNoBatch text = (bytes : List ℕ) (number : ℕ) (rows : List LineOrder) → text ≡ Some bytes
    → IsSegment bytes number rows → ⊥
