-- What the four dimensions have in their columns: which column determines which, and how many rows there may be.
-- The columns and their hierarchies are the benchmark's.
use Rattle.std.specs.Prelude.{ℕ, suc, Option, Some, None, List, [], ◌∷◌, slice_index_or}
use Rattle.cube_model.specs.declared.attr.Axis.{Axis}
use Rattle.cube_model.specs.declared.attr.Axis.TheVariants.{Customer, Supplier, Part, Date}
use Rattle.cube_model.specs.declared.attr.Attr.{Attr}
use Rattle.cube_model.specs.declared.attr.Attr.TheVariants.{CustomerCity, CustomerNation, CustomerRegion, SupplierCity}
use Rattle.cube_model.specs.declared.attr.Attr.TheVariants.{SupplierNation, SupplierRegion, PartBrand1, PartCategory}
use Rattle.cube_model.specs.declared.attr.Attr.TheVariants.{PartMfgr, DateKey, DateYearmonthnum, DateYear}
use Rattle.cube_model.specs.declared.attr.Attr.TheVariants.{DateYearmonth, DateWeeknuminyear}
use Rattle.cube_model.specs.Limits.{most_days, most_dimension_rows}
use Rattle.cube_model.specs.Validity.{Rules}
use Rattle.dimensions.specs.TextRows.{TextRow, text_in}

-- how many rows a dimension may have
abbrev pub row_limit_of : Axis → ℕ
row_limit_of Customer = most_dimension_rows
row_limit_of Supplier = most_dimension_rows
row_limit_of Part = most_dimension_rows
row_limit_of Date = most_days

-- Of each column the lower one whose texts determine its own, and nothing where only the row does: a city has its
-- nation and a nation its region, a month has its year and its yearmonth, and the week goes with the day alone.
abbrev pub lowers_of : Axis → List (Option ℕ)
lowers_of Customer = None ∷ Some 0 ∷ Some 1 ∷ []
lowers_of Supplier = None ∷ Some 0 ∷ Some 1 ∷ []
lowers_of Part = None ∷ Some 0 ∷ Some 1 ∷ []
lowers_of Date = None ∷ Some 0 ∷ Some 0 ∷ None ∷ []

-- the lower column of one column
abbrev pub lower_of : Axis → ℕ → Option ℕ
lower_of axis column = slice_index_or (lowers_of axis) column None

-- the columns from a number on, and the links between them
abbrev pub texts_from : ℕ → List (Option ℕ) → List (TextRow → List ℕ)
texts_from column [] = []
texts_from column (lower ∷ lowers) = text_in column ∷ texts_from (suc column) lowers

abbrev pub links_from : ℕ → List (Option ℕ) → List ((TextRow → List ℕ) × (TextRow → List ℕ))
links_from column [] = []
links_from column (None ∷ lowers) = links_from (suc column) lowers
links_from column (Some lower ∷ lowers) = (text_in lower, text_in column) ∷ links_from (suc column) lowers

-- the rules for rows of texts of a dimension
abbrev pub text_rules : Axis → Rules TextRow
text_rules axis = record {
  axis = axis;
  row_limit = row_limit_of axis;
  key = λ row. row.key;
  texts = texts_from 0 (lowers_of axis);
  links = links_from 0 (lowers_of axis);
}

-- the column of an attribute among those of its dimension. A day's own attribute is its key, and no column
abbrev pub attr_column : Attr → Option ℕ
attr_column CustomerCity = Some 0
attr_column CustomerNation = Some 1
attr_column CustomerRegion = Some 2
attr_column SupplierCity = Some 0
attr_column SupplierNation = Some 1
attr_column SupplierRegion = Some 2
attr_column PartBrand1 = Some 0
attr_column PartCategory = Some 1
attr_column PartMfgr = Some 2
attr_column DateKey = None
attr_column DateYearmonthnum = Some 0
attr_column DateYear = Some 1
attr_column DateYearmonth = Some 2
attr_column DateWeeknuminyear = Some 3
