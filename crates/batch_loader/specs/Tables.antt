-- The five tables of the Star Schema Benchmark: their columns, of which not all are kept, and their rows. Limits are
-- our own.
use Rattle.std.specs.Prelude.{ℕ, List, [], ◌∷◌, Result}
use Rattle.cube_model.specs.declared.fault.Fault.{Fault}
use Rattle.cube_model.specs.declared.rows.CustomerRow.{CustomerRow}
use Rattle.cube_model.specs.declared.rows.SupplierRow.{SupplierRow}
use Rattle.cube_model.specs.declared.rows.PartRow.{PartRow}
use Rattle.cube_model.specs.declared.rows.DateRow.{DateRow}
use Rattle.cube_model.specs.declared.rows.LineOrder.{LineOrder}
use Rattle.batch_loader.specs.declared.columns.Column.{Column}
use Rattle.batch_loader.specs.declared.columns.Column.TheVariants.{Number, Text, Skipped}
use Rattle.batch_loader.specs.Columns.{row_of, number_in, field_text}

-- keys and line numbers have 32 bits, amounts of money 63, and small counts 8
abbrev key : Column
key = Number 4294967295

abbrev amount : Column
amount = Number 9223372036854775807

abbrev small : Column
small = Number 255

-- custkey, name, address, city, nation, region, phone, mktsegment
abbrev pub customer_columns : List Column
customer_columns = key ∷ Skipped ∷ Skipped ∷ Text ∷ Text ∷ Text ∷ Skipped ∷ Skipped ∷ []

abbrev pub customer_of_fields : List (List ℕ) → CustomerRow
customer_of_fields fields = record {
  key = number_in fields 0;
  city = field_text fields 3;
  nation = field_text fields 4;
  region = field_text fields 5;
}

-- suppkey, name, address, city, nation, region, phone
abbrev pub supplier_columns : List Column
supplier_columns = key ∷ Skipped ∷ Skipped ∷ Text ∷ Text ∷ Text ∷ Skipped ∷ []

abbrev pub supplier_of_fields : List (List ℕ) → SupplierRow
supplier_of_fields fields = record {
  key = number_in fields 0;
  city = field_text fields 3;
  nation = field_text fields 4;
  region = field_text fields 5;
}

-- partkey, name, mfgr, category, brand1, color, type, size, container
abbrev pub part_columns : List Column
part_columns = key ∷ Skipped ∷ Text ∷ Text ∷ Text ∷ Skipped ∷ Skipped ∷ Skipped ∷ Skipped ∷ []

abbrev pub part_of_fields : List (List ℕ) → PartRow
part_of_fields fields = record {
  key = number_in fields 0;
  brand1 = field_text fields 4;
  category = field_text fields 3;
  mfgr = field_text fields 2;
}

-- datekey, date, dayofweek, month, year, yearmonthnum, yearmonth, daynuminweek, daynuminmonth, daynuminyear,
-- monthnuminyear, weeknuminyear, sellingseason, lastdayinweekfl, lastdayinmonthfl, holidayfl, weekdayfl
abbrev pub date_columns : List Column
date_columns =
    key ∷ Skipped ∷ Skipped ∷ Skipped ∷ Text ∷ Text ∷ Text ∷ Skipped ∷ Skipped ∷ Skipped ∷ Skipped ∷ Text
    ∷ Skipped ∷ Skipped ∷ Skipped ∷ Skipped ∷ Skipped ∷ []

abbrev pub date_of_fields : List (List ℕ) → DateRow
date_of_fields fields = record {
  key = number_in fields 0;
  year = field_text fields 4;
  yearmonthnum = field_text fields 5;
  yearmonth = field_text fields 6;
  weeknuminyear = field_text fields 11;
}

-- orderkey, linenumber, custkey, partkey, suppkey, orderdate, orderpriority, shippriority, quantity, extendedprice,
-- ordtotalprice, discount, revenue, supplycost, tax, commitdate, shipmode
abbrev pub lineorder_columns : List Column
lineorder_columns =
    amount ∷ key ∷ key ∷ key ∷ key ∷ key ∷ Text ∷ Text ∷ small ∷ amount ∷ amount ∷ small ∷ amount ∷ amount ∷ small
    ∷ Text ∷ Text ∷ []

abbrev pub lineorder_of_fields : List (List ℕ) → LineOrder
lineorder_of_fields fields = record {
  orderkey = number_in fields 0;
  linenumber = number_in fields 1;
  custkey = number_in fields 2;
  partkey = number_in fields 3;
  suppkey = number_in fields 4;
  orderdate = number_in fields 5;
  orderpriority = field_text fields 6;
  shippriority = field_text fields 7;
  quantity = number_in fields 8;
  extendedprice = number_in fields 9;
  ordtotalprice = number_in fields 10;
  discount = number_in fields 11;
  revenue = number_in fields 12;
  supplycost = number_in fields 13;
  tax = number_in fields 14;
  commitdate = field_text fields 15;
  shipmode = field_text fields 16;
}

-- the row of a line with a number, or its first fault
abbrev pub customer_row : ℕ → List ℕ → Result CustomerRow Fault
customer_row = row_of customer_columns customer_of_fields

abbrev pub supplier_row : ℕ → List ℕ → Result SupplierRow Fault
supplier_row = row_of supplier_columns supplier_of_fields

abbrev pub part_row : ℕ → List ℕ → Result PartRow Fault
part_row = row_of part_columns part_of_fields

abbrev pub date_row : ℕ → List ℕ → Result DateRow Fault
date_row = row_of date_columns date_of_fields

abbrev pub lineorder_row : ℕ → List ℕ → Result LineOrder Fault
lineorder_row = row_of lineorder_columns lineorder_of_fields
