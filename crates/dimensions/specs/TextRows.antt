-- Rows of a dimension as texts by column, and the columns of their texts.
use Rattle.std.specs.Prelude.{ℕ, ◌<◌, ◌^◌, List, [], ◌∷◌, map, slice_index_or}
use Rattle.std.specs.List.{AllByRecursion}
use Rattle.cube_model.specs.declared.rows.CustomerRow.{CustomerRow}
use Rattle.cube_model.specs.declared.rows.SupplierRow.{SupplierRow}
use Rattle.cube_model.specs.declared.rows.PartRow.{PartRow}
use Rattle.cube_model.specs.declared.rows.DateRow.{DateRow}

-- a row: its key, and its text in each column
pub record TextRow : Type 0 where
  pub key : ℕ
  pub texts : List (List ℕ)

-- the keys of rows fit four bytes
abbrev pub KeysFit : List TextRow → Type 0
KeysFit rows = AllByRecursion (λ row. row.key < 2 ^ 32) rows

-- the text of a row in a column
abbrev pub text_in : ℕ → TextRow → List ℕ
text_in column row = slice_index_or row.texts column []

-- the texts of a column, row by row
abbrev pub column_of : ℕ → List TextRow → List (List ℕ)
column_of column rows = map (text_in column) rows

-- the rows of the four dimensions. The lowest member comes first
abbrev pub row_of_customer : CustomerRow → TextRow
row_of_customer row = record { key = row.key; texts = row.city ∷ row.nation ∷ row.region ∷ [] }

abbrev pub row_of_supplier : SupplierRow → TextRow
row_of_supplier row = record { key = row.key; texts = row.city ∷ row.nation ∷ row.region ∷ [] }

abbrev pub row_of_part : PartRow → TextRow
row_of_part row = record { key = row.key; texts = row.brand1 ∷ row.category ∷ row.mfgr ∷ [] }

abbrev pub row_of_date : DateRow → TextRow
row_of_date row = record { key = row.key; texts = row.yearmonthnum ∷ row.year ∷ row.yearmonth ∷ row.weeknuminyear ∷ [] }
