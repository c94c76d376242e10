-- What the bytes of a batch hold, column by column, and its rows. Our layout.
use Rattle.std.specs.Prelude.{◌≡◌, ℕ, ◌+◌, ◌*◌, ◌^◌, ◌<◌, ◌≤◌, List, [], All, map, length, take, drop}
use Rattle.std.specs.Prelude.{slice_index, slice_index_or}
use Rattle.std.specs.Int.{from_le_bytes, w16, w32, w64}
use Rattle.std.specs.List.{range_with_len}
use Rattle.std.specs.Simd.{first_chunks}
use Rattle.cube_model.specs.Limits.{most_batch_rows}
use Rattle.cube_model.specs.declared.rows.LineOrder.{LineOrder}
use Rattle.dictionary.specs.Columns.{text_of_code}
use Rattle.column_segment.specs.declared.columns.FactColumn.{FactColumn}
use Rattle.column_segment.specs.declared.columns.FactColumn.TheVariants.{OrderKey, LineNumber, CustKey, PartKey}
use Rattle.column_segment.specs.declared.columns.FactColumn.TheVariants.{SuppKey, OrderDate, Quantity, ExtendedPrice}
use Rattle.column_segment.specs.declared.columns.FactColumn.TheVariants.{OrdTotalPrice, Discount, Revenue, SupplyCost}
use Rattle.column_segment.specs.declared.columns.FactColumn.TheVariants.{Tax}
use Rattle.column_segment.specs.declared.columns.TextColumn.{TextColumn}
use Rattle.column_segment.specs.declared.columns.TextColumn.TheVariants.{OrderPriority, ShipPriority, CommitDate}
use Rattle.column_segment.specs.declared.columns.TextColumn.TheVariants.{ShipMode}
use Rattle.column_segment.specs.declared.layout.Coded.{Coded}
use Rattle.column_segment.specs.declared.layout.CodedTexts.{CodedTexts}
use Rattle.column_segment.specs.declared.layout.Layout.{Layout}
use Rattle.column_segment.specs.Columns.{width_of}
use Rattle.column_segment.specs.Segment.{IsSegment}

-- how many bytes of a row are in the columns before one
abbrev pub fact_place : FactColumn → ℕ
fact_place OrderKey = 0
fact_place LineNumber = 8
fact_place CustKey = 12
fact_place PartKey = 16
fact_place SuppKey = 20
fact_place OrderDate = 24
fact_place Quantity = 28
fact_place ExtendedPrice = 29
fact_place OrdTotalPrice = 37
fact_place Discount = 45
fact_place Revenue = 46
fact_place SupplyCost = 54
fact_place Tax = 62

-- the bytes of a column of so many bytes a row, after the header and the columns before it
abbrev pub column_bytes : ℕ → ℕ → ℕ → List ℕ → List ℕ
column_bytes place width rows bytes = take (width * rows) (drop (place * rows) (drop 12 bytes))

-- the numbers of a column, if they have eight bytes each, four, or one
abbrev pub amounts_in : List ℕ → ℕ → FactColumn → List ℕ
amounts_in bytes rows column =
    map (from_le_bytes w64) (first_chunks 8 rows (column_bytes (fact_place column) 8 rows bytes))

abbrev pub numbers_in : List ℕ → ℕ → FactColumn → List ℕ
numbers_in bytes rows column =
    map (from_le_bytes w32) (first_chunks 4 rows (column_bytes (fact_place column) 4 rows bytes))

abbrev pub figures_in : List ℕ → ℕ → FactColumn → List ℕ
figures_in bytes rows column = column_bytes (fact_place column) 1 rows bytes

-- the codes that begin at a place, and the texts of a column
abbrev pub codes_in : List ℕ → ℕ → ℕ → List ℕ
codes_in bytes rows at = map (from_le_bytes w16) (first_chunks 2 rows (take (2 * rows) (drop at bytes)))

abbrev pub texts_in : List ℕ → ℕ → Coded → List (List ℕ)
texts_in bytes rows coded = map (text_of_code coded.texts.texts) (codes_in bytes rows coded.at)

abbrev pub coded_of : TextColumn → CodedTexts → Coded
coded_of OrderPriority texts = texts.orderpriority
coded_of ShipPriority texts = texts.shippriority
coded_of CommitDate texts = texts.commitdate
coded_of ShipMode texts = texts.shipmode

-- a row: what is at its place in each column
abbrev pub row_in : List ℕ → Layout → ℕ → LineOrder
row_in bytes layout row =
    let rows = layout.rows in
    record {
      orderkey = slice_index (amounts_in bytes rows OrderKey) row;
      linenumber = slice_index (numbers_in bytes rows LineNumber) row;
      custkey = slice_index (numbers_in bytes rows CustKey) row;
      partkey = slice_index (numbers_in bytes rows PartKey) row;
      suppkey = slice_index (numbers_in bytes rows SuppKey) row;
      orderdate = slice_index (numbers_in bytes rows OrderDate) row;
      orderpriority = slice_index_or (texts_in bytes rows layout.texts.orderpriority) row [];
      shippriority = slice_index_or (texts_in bytes rows layout.texts.shippriority) row [];
      quantity = slice_index (figures_in bytes rows Quantity) row;
      extendedprice = slice_index (amounts_in bytes rows ExtendedPrice) row;
      ordtotalprice = slice_index (amounts_in bytes rows OrdTotalPrice) row;
      discount = slice_index (figures_in bytes rows Discount) row;
      revenue = slice_index (amounts_in bytes rows Revenue) row;
      supplycost = slice_index (amounts_in bytes rows SupplyCost) row;
      tax = slice_index (figures_in bytes rows Tax) row;
      commitdate = slice_index_or (texts_in bytes rows layout.texts.commitdate) row [];
      shipmode = slice_index_or (texts_in bytes rows layout.texts.shipmode) row [];
    }

abbrev pub decoded_rows : List ℕ → Layout → List LineOrder
decoded_rows bytes layout = map (row_in bytes layout) (range_with_len 0 layout.rows)

-- there is room for the columns of numbers of so many rows
pub record HoldsColumns (bytes : List ℕ) (rows : ℕ) : Type 0 where
  pub few : rows ≤ most_batch_rows
  pub room : 12 + 63 * rows ≤ length bytes

-- the codes of a column are there, each of them that of a text
pub record HasCodes (bytes : List ℕ) (rows : ℕ) (coded : Coded) : Type 0 where
  pub room : coded.at + 2 * rows ≤ length bytes
  pub few : length coded.texts.texts ≤ most_batch_rows
  pub below : All (λ code. code < length coded.texts.texts) (codes_in bytes rows coded.at)

-- each row can be read: the columns are there, with amounts and codes in their ranges
pub record IsReadable (bytes : List ℕ) (layout : Layout) : Type 0 where
  pub few : layout.rows ≤ most_batch_rows
  pub room : 12 + 63 * layout.rows ≤ length bytes
  pub amounts : (column : FactColumn) → width_of column ≡ 8
      → All (λ amount. amount < 2 ^ 63) (amounts_in bytes layout.rows column)
  pub codes : (column : TextColumn) → HasCodes bytes layout.rows (coded_of column layout.texts)

-- the bytes are those of a batch that is laid out in this way
pub record IsDecoded (bytes : List ℕ) (layout : Layout) : Type 0 where
  pub segment : IsSegment bytes layout.number (decoded_rows bytes layout)
  pub readable : IsReadable bytes layout
