-- What is checked of the bytes of a batch while they are read. Our own.
use Rattle.std.specs.Prelude.{◌≡◌, ◌≢◌, ℕ, ◌+◌, ◌*◌, ◌<◌, ◌≤◌, ◌^◌, true, List, ◌++◌, length, map, take, drop}
use Rattle.std.specs.Int.{from_le_bytes, w16}
use Rattle.std.specs.List.{flat_map}
use Rattle.std.specs.Simd.{first_chunks}
use Rattle.cube_model.specs.Limits.{most_batch_rows}
use Rattle.cube_model.specs.declared.rows.LineOrder.{LineOrder}
use Rattle.column_kernels.specs.Checks.{all_below}
use Rattle.dictionary.specs.Columns.{AreCodes, column_spelling}
use Rattle.dictionary.specs.Spelling.{AreProper, AreShort, texts_spelling}
use Rattle.column_segment.specs.declared.columns.FactColumn.{FactColumn}
use Rattle.column_segment.specs.declared.columns.TextColumn.{TextColumn}
use Rattle.column_segment.specs.declared.layout.Coded.{Coded}
use Rattle.column_segment.specs.declared.layout.CodedTexts.{CodedTexts}
use Rattle.column_segment.specs.Columns.{text_columns, width_of}
use Rattle.column_segment.specs.Decoded.{amounts_in, codes_in}
use Rattle.column_segment.specs.Segment.{IsBatch, segment_header, text_column}

-- the bytes begin with the header of a batch
pub record HasHeader (bytes : List ℕ) (number rows : ℕ) : Type 0 where
  pub spelled : bytes ≡ segment_header number rows ++ drop 12 bytes
  pub fits : number < 2 ^ 32
  pub few : rows ≤ most_batch_rows

-- the columns of numbers are there, and each amount is one
pub record HasNumbers (bytes : List ℕ) (rows : ℕ) : Type 0 where
  pub room : 12 + 63 * rows ≤ length bytes
  pub amounts : (column : FactColumn) → width_of column ≡ 8
      → all_below (2 ^ 63) (amounts_in bytes rows column) ≡ true

-- the bytes begin with codes in the order of their first use, which use each one below a count
pub record BeginsWithCodes (bytes : List ℕ) (rows count : ℕ) : Type 0 where
  pub room : 2 * rows ≤ length bytes
  pub are : AreCodes count (map (from_le_bytes w16) (first_chunks 2 rows (take (2 * rows) bytes)))

-- a column of texts begins at a place: its dictionary, then its codes
pub record HasColumn (bytes : List ℕ) (rows from : ℕ) (coded : Coded) : Type 0 where
  pub proper : AreProper most_batch_rows coded.texts.texts
  pub room : coded.at + 2 * rows ≤ length bytes
  pub are : AreCodes (length coded.texts.texts) (codes_in bytes rows coded.at)
  pub spelled : drop from bytes ≡ texts_spelling coded.texts.texts ++ drop coded.at bytes

-- the columns of texts come one after the other, up to the end
pub record HasTexts (bytes : List ℕ) (rows : ℕ) (texts : CodedTexts) : Type 0 where
  pub orderpriority : HasColumn bytes rows (12 + 63 * rows) texts.orderpriority
  pub shippriority : HasColumn bytes rows (texts.orderpriority.at + 2 * rows) texts.shippriority
  pub commitdate : HasColumn bytes rows (texts.shippriority.at + 2 * rows) texts.commitdate
  pub shipmode : HasColumn bytes rows (texts.commitdate.at + 2 * rows) texts.shipmode
  pub end : texts.shipmode.at + 2 * rows ≡ length bytes

-- the bytes begin with no column of so many short texts
abbrev pub BeginsWithNoColumn : ℕ → List ℕ → Type 0
BeginsWithNoColumn rows bytes = (column : List (List ℕ)) (rest : List ℕ) → length column ≡ rows → AreShort column
    → bytes ≢ column_spelling column ++ rest

-- the bytes are these columns of texts of no so many rows
abbrev pub SpellNone : List TextColumn → ℕ → List ℕ → Type 0
SpellNone columns count bytes = (rows : List LineOrder) → length rows ≡ count → IsBatch rows
    → bytes ≢ flat_map (text_column rows) columns

-- they are all columns of texts of none
abbrev pub SpellNoTexts : ℕ → List ℕ → Type 0
SpellNoTexts count bytes = SpellNone text_columns count bytes

-- the last two columns of texts begin at a place and fill the rest
pub record HasLast (bytes : List ℕ) (rows from : ℕ) (date mode : Coded) : Type 0 where
  pub commitdate : HasColumn bytes rows from date
  pub shipmode : HasColumn bytes rows (date.at + 2 * rows) mode
  pub end : mode.at + 2 * rows ≡ length bytes
