-- The tables by name, the dimension of each, and what their columns hold. The names are those of the benchmark.
use Rattle.std.specs.Prelude.{ℕ, List, codes}
use Rattle.cube_model.specs.declared.attr.Axis.{Axis}
use Rattle.cube_model.specs.declared.attr.Axis.TheVariants.{Customer as customers, Supplier as suppliers, Part as parts}
use Rattle.cube_model.specs.declared.attr.Axis.TheVariants.{Date as dates}
use Rattle.batch_loader.specs.declared.columns.Column.{Column}
use Rattle.batch_loader.specs.declared.schema.Table.{Table}
use Rattle.batch_loader.specs.declared.schema.Table.TheVariants.{Customer, Supplier, Part, Date, Lineorder}
use Rattle.batch_loader.specs.Tables.{customer_columns, supplier_columns, part_columns, date_columns}
use Rattle.batch_loader.specs.Tables.{lineorder_columns}

abbrev pub table_name : Table → List ℕ
table_name Customer = codes "customer"
table_name Supplier = codes "supplier"
table_name Part = codes "part"
table_name Date = codes "date"
table_name Lineorder = codes "lineorder"

-- the table of a dimension
abbrev pub table_of : Axis → Table
table_of customers = Customer
table_of suppliers = Supplier
table_of parts = Part
table_of dates = Date

abbrev pub columns_of : Table → List Column
columns_of Customer = customer_columns
columns_of Supplier = supplier_columns
columns_of Part = part_columns
columns_of Date = date_columns
columns_of Lineorder = lineorder_columns
