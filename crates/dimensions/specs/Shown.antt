-- The rows that four dimensions represent.
use Rattle.std.specs.Prelude.{◌≡◌, ℕ, zero, suc, List, [], ◌∷◌, map, length, slice_index_or, unwrap_or}
use Rattle.std.specs.Option.{option_map}
use Rattle.std.specs.Fmt.{decimal}
use Rattle.cube_model.specs.declared.attr.Axis.{Axis}
use Rattle.cube_model.specs.declared.attr.Axis.TheVariants.{Customer, Supplier, Part, Date}
use Rattle.cube_model.specs.declared.rows.CustomerRow.{CustomerRow}
use Rattle.cube_model.specs.declared.rows.SupplierRow.{SupplierRow}
use Rattle.cube_model.specs.declared.rows.PartRow.{PartRow}
use Rattle.cube_model.specs.declared.rows.DateRow.{DateRow}
use Rattle.cube_model.specs.declared.rows.DimRows.{DimRows}
use Rattle.cube_model.specs.Validity.{HaveShortTexts, IsValid}
use Rattle.dimensions.specs.declared.dimension.Dimension.{Dimension}
use Rattle.dimensions.specs.TextRows.{TextRow, row_of_customer, row_of_supplier, row_of_part, row_of_date, KeysFit}
use Rattle.dimensions.specs.Shapes.{lowers_of}
use Rattle.dimensions.specs.Dimensions.{IsDimension, column_at}

-- the rows of a dimension as texts by column
abbrev pub rows_on : DimRows → Axis → List TextRow
rows_on rows Customer = map row_of_customer rows.customers
rows_on rows Supplier = map row_of_supplier rows.suppliers
rows_on rows Part = map row_of_part rows.parts
rows_on rows Date = map row_of_date rows.dates

-- the code of a row in a column, read up from the row over at most so many columns
abbrev pub code_up : ℕ → Dimension → ℕ → ℕ → ℕ
code_up zero dimension column row = row
code_up (suc steps) dimension column row =
    slice_index_or (column_at dimension column).codes
    (unwrap_or (option_map (λ lower. code_up steps dimension lower row) (column_at dimension column).lower) row) 0

-- the text of a row in a column
abbrev pub text_up : Dimension → ℕ → ℕ → List ℕ
text_up dimension column row = slice_index_or (column_at dimension column).texts.texts (code_up 4 dimension column row)
    []

-- a row for each row index below a number
abbrev pub each_row : {Row : Type 0} → (ℕ → Row) → ℕ → List Row
each_row row zero = []
each_row row (suc count) = row 0 ∷ each_row (λ index. row (suc index)) count

-- a row as texts by column, and all of them
abbrev pub text_row : Axis → Dimension → ℕ → TextRow
text_row axis dimension row = record {
  key = slice_index_or dimension.keys row 0;
  texts = each_row (λ column. text_up dimension column row) (length (lowers_of axis));
}

abbrev pub rows_of_dimension : Axis → Dimension → List TextRow
rows_of_dimension axis dimension = each_row (text_row axis dimension) (length dimension.keys)

abbrev pub shown_customer : Dimension → ℕ → CustomerRow
shown_customer dimension row =
    record {
      key = slice_index_or dimension.keys row 0;
      city = text_up dimension 0 row;
      nation = text_up dimension 1 row;
      region = text_up dimension 2 row;
    }

abbrev pub shown_supplier : Dimension → ℕ → SupplierRow
shown_supplier dimension row =
    record {
      key = slice_index_or dimension.keys row 0;
      city = text_up dimension 0 row;
      nation = text_up dimension 1 row;
      region = text_up dimension 2 row;
    }

abbrev pub shown_part : Dimension → ℕ → PartRow
shown_part dimension row =
    record {
      key = slice_index_or dimension.keys row 0;
      brand1 = text_up dimension 0 row;
      category = text_up dimension 1 row;
      mfgr = text_up dimension 2 row;
    }

abbrev pub shown_date : Dimension → ℕ → DateRow
shown_date dimension row = record {
  key = slice_index_or dimension.keys row 0;
  yearmonthnum = text_up dimension 0 row;
  year = text_up dimension 1 row;
  yearmonth = text_up dimension 2 row;
  weeknuminyear = text_up dimension 3 row;
}

-- The rows that four dimensions represent. Callers do not look into it: a proof that owns a `Dims` would otherwise
-- open the columns.
unfoldable pub shown_rows : Dimension → Dimension → Dimension → Dimension → DimRows
shown_rows customers suppliers parts dates = record {
  customers = each_row (shown_customer customers) (length customers.keys);
  suppliers = each_row (shown_supplier suppliers) (length suppliers.keys);
  parts = each_row (shown_part parts) (length parts.keys);
  dates = each_row (shown_date dates) (length dates.keys);
}

-- dimension rows that can be stored: they are valid, their texts are short, and their keys fit four bytes
pub record AreStorable (rows : DimRows) : Type 0 where
  pub valid : IsValid rows
  pub short : HaveShortTexts rows
  pub keys : (axis : Axis) → KeysFit (rows_on rows axis)

-- the dimensions are those of some valid rows with short texts, and each day has its rank
pub record AreDimensions (rows : DimRows) (customers suppliers parts dates : Dimension) (days : List (List ℕ)) : Type 0
  where
    pub customers_are : IsDimension Customer (rows_on rows Customer) customers
    pub suppliers_are : IsDimension Supplier (rows_on rows Supplier) suppliers
    pub parts_are : IsDimension Part (rows_on rows Part) parts
    pub dates_are : IsDimension Date (rows_on rows Date) dates
    pub days_are : days ≡ map (λ row. decimal row.key) rows.dates
    pub valid : IsValid rows
    pub short : HaveShortTexts rows
