-- The five tables as texts: a line for each row, its fields separated by bars. A column that is not kept is an empty
-- field.
use Rattle.std.specs.Prelude.{ℕ, List, [], ◌∷◌, ◌++◌}
use Rattle.std.specs.Fmt.{decimal}
use Rattle.std.specs.List.{flat_map}
use Rattle.cube_model.specs.declared.attr.Axis.{Axis}
use Rattle.cube_model.specs.declared.attr.Axis.TheVariants.{Customer, Supplier, Part, Date}
use Rattle.cube_model.specs.declared.rows.CustomerRow.{CustomerRow}
use Rattle.cube_model.specs.declared.rows.SupplierRow.{SupplierRow}
use Rattle.cube_model.specs.declared.rows.PartRow.{PartRow}
use Rattle.cube_model.specs.declared.rows.DateRow.{DateRow}
use Rattle.cube_model.specs.declared.rows.DimRows.{DimRows}
use Rattle.cube_model.specs.declared.rows.LineOrder.{LineOrder}
use Rattle.ssb_reports.specs.Report.{row_text}

-- orderkey, linenumber, custkey, partkey, suppkey, orderdate
abbrev pub key_fields : LineOrder → List (List ℕ)
key_fields row =
    decimal row.orderkey ∷ decimal row.linenumber ∷ decimal row.custkey ∷ decimal row.partkey ∷ decimal row.suppkey
    ∷ decimal row.orderdate ∷ []

-- orderpriority, shippriority, quantity, extendedprice, ordtotalprice, discount, revenue, supplycost, tax, commitdate,
-- shipmode
abbrev pub other_fields : LineOrder → List (List ℕ)
other_fields row =
    row.orderpriority ∷ row.shippriority ∷ decimal row.quantity ∷ decimal row.extendedprice ∷ decimal row.ordtotalprice
    ∷ decimal row.discount ∷ decimal row.revenue ∷ decimal row.supplycost ∷ decimal row.tax ∷ row.commitdate
    ∷ row.shipmode ∷ []

-- the seventeen fields of a fact row, all of which are kept
abbrev pub fact_fields : LineOrder → List (List ℕ)
fact_fields row = key_fields row ++ other_fields row

-- custkey, name, address, city, nation, region, phone, mktsegment
abbrev pub customer_fields : CustomerRow → List (List ℕ)
customer_fields row = decimal row.key ∷ [] ∷ [] ∷ row.city ∷ row.nation ∷ row.region ∷ [] ∷ [] ∷ []

-- suppkey, name, address, city, nation, region, phone
abbrev pub supplier_fields : SupplierRow → List (List ℕ)
supplier_fields row = decimal row.key ∷ [] ∷ [] ∷ row.city ∷ row.nation ∷ row.region ∷ [] ∷ []

-- partkey, name, mfgr, category, brand1, color, type, size, container
abbrev pub part_fields : PartRow → List (List ℕ)
part_fields row = decimal row.key ∷ [] ∷ row.mfgr ∷ row.category ∷ row.brand1 ∷ [] ∷ [] ∷ [] ∷ [] ∷ []

-- datekey, date, dayofweek, month, year, yearmonthnum, yearmonth, four that are not kept, weeknuminyear, five that are
-- not kept
abbrev pub date_fields : DateRow → List (List ℕ)
date_fields row =
    decimal row.key ∷ [] ∷ [] ∷ [] ∷ row.year ∷ row.yearmonthnum ∷ row.yearmonth ∷ [] ∷ [] ∷ [] ∷ []
    ∷ row.weeknuminyear ∷ [] ∷ [] ∷ [] ∷ [] ∷ [] ∷ []

-- a line for each row, of the fields of the row
abbrev pub table_text : {Row : Type 0} → (Row → List (List ℕ)) → List Row → List ℕ
table_text fields rows = flat_map (λ row. row_text (fields row)) rows

-- the table of fact rows
abbrev pub facts_text : List LineOrder → List ℕ
facts_text rows = table_text fact_fields rows

-- the table of a dimension
abbrev pub dimension_text : DimRows → Axis → List ℕ
dimension_text rows Customer = table_text customer_fields rows.customers
dimension_text rows Supplier = table_text supplier_fields rows.suppliers
dimension_text rows Part = table_text part_fields rows.parts
dimension_text rows Date = table_text date_fields rows.dates
