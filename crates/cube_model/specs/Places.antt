-- Where the rows of a dimension are, and what an attribute is at each place. Our own: fast answers work with places.
use Rattle.std.specs.Prelude.{ℕ, ◌==◌, List, [], map, length, slice_index_or}
use Rattle.std.specs.List.{position_or_len}
use Rattle.std.specs.Fmt.{decimal}
use Rattle.cube_model.specs.declared.attr.Attr.{Attr}
use Rattle.cube_model.specs.declared.attr.Attr.TheVariants.{CustomerCity, CustomerNation, CustomerRegion, SupplierCity}
use Rattle.cube_model.specs.declared.attr.Attr.TheVariants.{SupplierNation, SupplierRegion, PartBrand1, PartCategory}
use Rattle.cube_model.specs.declared.attr.Attr.TheVariants.{PartMfgr, DateKey, DateYearmonthnum, DateYear}
use Rattle.cube_model.specs.declared.attr.Attr.TheVariants.{DateYearmonth, DateWeeknuminyear}
use Rattle.cube_model.specs.declared.attr.Axis.{Axis}
use Rattle.cube_model.specs.declared.attr.Axis.TheVariants.{Customer, Supplier, Part, Date}
use Rattle.cube_model.specs.declared.rows.DimRows.{DimRows}
use Rattle.cube_model.specs.Validity.{members_of}

-- how many rows a dimension has
abbrev pub row_count_of : DimRows → Axis → ℕ
row_count_of dimensions Customer = length dimensions.customers
row_count_of dimensions Supplier = length dimensions.suppliers
row_count_of dimensions Part = length dimensions.parts
row_count_of dimensions Date = length dimensions.dates

-- the place of the first row with a key, or the number of rows where no row has the key. Places count from 0
abbrev pub row_index_of : DimRows → Axis → ℕ → ℕ
row_index_of dimensions Customer key = position_or_len (λ row. row.key == key) dimensions.customers
row_index_of dimensions Supplier key = position_or_len (λ row. row.key == key) dimensions.suppliers
row_index_of dimensions Part key = position_or_len (λ row. row.key == key) dimensions.parts
row_index_of dimensions Date key = position_or_len (λ row. row.key == key) dimensions.dates

-- an attribute at each row of its dimension, in the order of the rows
abbrev pub texts_of : DimRows → Attr → List (List ℕ)
texts_of dimensions CustomerCity = map (λ row. row.city) dimensions.customers
texts_of dimensions CustomerNation = map (λ row. row.nation) dimensions.customers
texts_of dimensions CustomerRegion = map (λ row. row.region) dimensions.customers
texts_of dimensions SupplierCity = map (λ row. row.city) dimensions.suppliers
texts_of dimensions SupplierNation = map (λ row. row.nation) dimensions.suppliers
texts_of dimensions SupplierRegion = map (λ row. row.region) dimensions.suppliers
texts_of dimensions PartBrand1 = map (λ row. row.brand1) dimensions.parts
texts_of dimensions PartCategory = map (λ row. row.category) dimensions.parts
texts_of dimensions PartMfgr = map (λ row. row.mfgr) dimensions.parts
texts_of dimensions DateKey = map (λ row. decimal row.key) dimensions.dates
texts_of dimensions DateYearmonthnum = map (λ row. row.yearmonthnum) dimensions.dates
texts_of dimensions DateYear = map (λ row. row.year) dimensions.dates
texts_of dimensions DateYearmonth = map (λ row. row.yearmonth) dimensions.dates
texts_of dimensions DateWeeknuminyear = map (λ row. row.weeknuminyear) dimensions.dates

-- an attribute at a place, and no text after the last
abbrev pub text_at : DimRows → Attr → ℕ → List ℕ
text_at dimensions attr place = slice_index_or (texts_of dimensions attr) place []

-- the members of an attribute: its texts, each once, in order by bytes. A member's place among them is its rank
abbrev pub attr_members : DimRows → Attr → List (List ℕ)
attr_members dimensions attr = members_of (texts_of dimensions attr)
