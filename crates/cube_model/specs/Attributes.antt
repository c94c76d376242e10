-- The attributes of a fact row: those of the dimension rows that it names by their keys (a star join).
-- Dimensions, keys and attributes are the benchmark's.
use Rattle.std.specs.Prelude.{ℕ, ◌==◌, List, [], Option, Some, None, unwrap_or, find}
use Rattle.std.specs.Fmt.{decimal}
use Rattle.std.specs.Option.{option_and_then}
use Rattle.cube_model.specs.declared.attr.Attr.{Attr}
use Rattle.cube_model.specs.declared.attr.Attr.TheVariants.{CustomerCity, CustomerNation, CustomerRegion, SupplierCity}
use Rattle.cube_model.specs.declared.attr.Attr.TheVariants.{SupplierNation, SupplierRegion, PartBrand1, PartCategory}
use Rattle.cube_model.specs.declared.attr.Attr.TheVariants.{PartMfgr, DateKey, DateYearmonthnum, DateYear}
use Rattle.cube_model.specs.declared.attr.Attr.TheVariants.{DateYearmonth, DateWeeknuminyear}
use Rattle.cube_model.specs.declared.attr.Axis.{Axis}
use Rattle.cube_model.specs.declared.attr.Axis.TheVariants.{Customer, Supplier, Part, Date}
use Rattle.cube_model.specs.declared.rows.CustomerRow.{CustomerRow}
use Rattle.cube_model.specs.declared.rows.SupplierRow.{SupplierRow}
use Rattle.cube_model.specs.declared.rows.PartRow.{PartRow}
use Rattle.cube_model.specs.declared.rows.DateRow.{DateRow}
use Rattle.cube_model.specs.declared.rows.DimRows.{DimRows}
use Rattle.cube_model.specs.declared.rows.LineOrder.{LineOrder}

-- the row with a key of each dimension, if there is one
abbrev pub customer_of : DimRows → ℕ → Option CustomerRow
customer_of dimensions key = find (λ row. row.key == key) dimensions.customers

abbrev pub supplier_of : DimRows → ℕ → Option SupplierRow
supplier_of dimensions key = find (λ row. row.key == key) dimensions.suppliers

abbrev pub part_of : DimRows → ℕ → Option PartRow
part_of dimensions key = find (λ row. row.key == key) dimensions.parts

abbrev pub date_of : DimRows → ℕ → Option DateRow
date_of dimensions key = find (λ row. row.key == key) dimensions.dates

-- the dimension that has an attribute
abbrev pub axis_of : Attr → Axis
axis_of CustomerCity = Customer
axis_of CustomerNation = Customer
axis_of CustomerRegion = Customer
axis_of SupplierCity = Supplier
axis_of SupplierNation = Supplier
axis_of SupplierRegion = Supplier
axis_of PartBrand1 = Part
axis_of PartCategory = Part
axis_of PartMfgr = Part
axis_of DateKey = Date
axis_of DateYearmonthnum = Date
axis_of DateYear = Date
axis_of DateYearmonth = Date
axis_of DateWeeknuminyear = Date

-- the attributes of a dimension row. A day is its key in decimal
abbrev pub of_customer : Attr → CustomerRow → Option (List ℕ)
of_customer CustomerCity row = Some row.city
of_customer CustomerNation row = Some row.nation
of_customer CustomerRegion row = Some row.region
of_customer _ row = None

abbrev pub of_supplier : Attr → SupplierRow → Option (List ℕ)
of_supplier SupplierCity row = Some row.city
of_supplier SupplierNation row = Some row.nation
of_supplier SupplierRegion row = Some row.region
of_supplier _ row = None

abbrev pub of_part : Attr → PartRow → Option (List ℕ)
of_part PartBrand1 row = Some row.brand1
of_part PartCategory row = Some row.category
of_part PartMfgr row = Some row.mfgr
of_part _ row = None

abbrev pub of_date : Attr → DateRow → Option (List ℕ)
of_date DateKey row = Some (decimal row.key)
of_date DateYearmonthnum row = Some row.yearmonthnum
of_date DateYear row = Some row.year
of_date DateYearmonth row = Some row.yearmonth
of_date DateWeeknuminyear row = Some row.weeknuminyear
of_date _ row = None

-- the attribute of the row with a key of a dimension, if there is such a row and it has the attribute
abbrev pub attribute_at : DimRows → Axis → ℕ → Attr → Option (List ℕ)
attribute_at dimensions Customer key attr = option_and_then (of_customer attr) (customer_of dimensions key)
attribute_at dimensions Supplier key attr = option_and_then (of_supplier attr) (supplier_of dimensions key)
attribute_at dimensions Part key attr = option_and_then (of_part attr) (part_of dimensions key)
attribute_at dimensions Date key attr = option_and_then (of_date attr) (date_of dimensions key)

-- the key that a fact row has on a dimension
abbrev pub key_on : Axis → LineOrder → ℕ
key_on Customer row = row.custkey
key_on Supplier row = row.suppkey
key_on Part row = row.partkey
key_on Date row = row.orderdate

-- the attribute of a fact row: that of the dimension row with its key (no text where there is none)
abbrev pub attribute_of : DimRows → Attr → LineOrder → List ℕ
attribute_of dimensions attr row = unwrap_or (attribute_at dimensions (axis_of attr) (key_on (axis_of attr) row) attr)
    []
