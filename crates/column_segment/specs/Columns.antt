-- The columns of a batch of fact rows: which value of a row is in each. Our layout.
use Rattle.std.specs.Prelude.{ℕ, ◌<◌, ◌^◌, List, [], ◌∷◌, ◌++◌}
use Rattle.cube_model.specs.declared.rows.LineOrder.{LineOrder}
use Rattle.column_segment.specs.declared.columns.FactColumn.{FactColumn}
use Rattle.column_segment.specs.declared.columns.FactColumn.TheVariants.{OrderKey, LineNumber, CustKey, PartKey}
use Rattle.column_segment.specs.declared.columns.FactColumn.TheVariants.{SuppKey, OrderDate, Quantity, ExtendedPrice}
use Rattle.column_segment.specs.declared.columns.FactColumn.TheVariants.{OrdTotalPrice, Discount, Revenue, SupplyCost}
use Rattle.column_segment.specs.declared.columns.FactColumn.TheVariants.{Tax}
use Rattle.column_segment.specs.declared.columns.TextColumn.{TextColumn}
use Rattle.column_segment.specs.declared.columns.TextColumn.TheVariants.{OrderPriority, ShipPriority, CommitDate}
use Rattle.column_segment.specs.declared.columns.TextColumn.TheVariants.{ShipMode}

-- which number of a row is in a column of numbers
abbrev pub fact_value : FactColumn → LineOrder → ℕ
fact_value OrderKey row = row.orderkey
fact_value LineNumber row = row.linenumber
fact_value CustKey row = row.custkey
fact_value PartKey row = row.partkey
fact_value SuppKey row = row.suppkey
fact_value OrderDate row = row.orderdate
fact_value Quantity row = row.quantity
fact_value ExtendedPrice row = row.extendedprice
fact_value OrdTotalPrice row = row.ordtotalprice
fact_value Discount row = row.discount
fact_value Revenue row = row.revenue
fact_value SupplyCost row = row.supplycost
fact_value Tax row = row.tax

-- how many bytes each number of it has
abbrev pub width_of : FactColumn → ℕ
width_of OrderKey = 8
width_of LineNumber = 4
width_of CustKey = 4
width_of PartKey = 4
width_of SuppKey = 4
width_of OrderDate = 4
width_of Quantity = 1
width_of ExtendedPrice = 8
width_of OrdTotalPrice = 8
width_of Discount = 1
width_of Revenue = 8
width_of SupplyCost = 8
width_of Tax = 1

-- the least number that is too large for it
abbrev pub limit_of : FactColumn → ℕ
limit_of OrderKey = 2 ^ 63
limit_of LineNumber = 2 ^ 32
limit_of CustKey = 2 ^ 32
limit_of PartKey = 2 ^ 32
limit_of SuppKey = 2 ^ 32
limit_of OrderDate = 2 ^ 32
limit_of Quantity = 2 ^ 8
limit_of ExtendedPrice = 2 ^ 63
limit_of OrdTotalPrice = 2 ^ 63
limit_of Discount = 2 ^ 8
limit_of Revenue = 2 ^ 63
limit_of SupplyCost = 2 ^ 63
limit_of Tax = 2 ^ 8

-- what a row has in a column of texts
abbrev pub text_of : TextColumn → LineOrder → List ℕ
text_of OrderPriority row = row.orderpriority
text_of ShipPriority row = row.shippriority
text_of CommitDate row = row.commitdate
text_of ShipMode row = row.shipmode

-- the columns of numbers, in order: first the keys of a row, then its figures
abbrev pub key_columns : List FactColumn
key_columns = OrderKey ∷ LineNumber ∷ CustKey ∷ PartKey ∷ SuppKey ∷ OrderDate ∷ []

abbrev pub figure_columns : List FactColumn
figure_columns = Quantity ∷ ExtendedPrice ∷ OrdTotalPrice ∷ Discount ∷ Revenue ∷ SupplyCost ∷ Tax ∷ []

abbrev pub number_columns : List FactColumn
number_columns = key_columns ++ figure_columns

-- the columns of texts, in order
abbrev pub text_columns : List TextColumn
text_columns = OrderPriority ∷ ShipPriority ∷ CommitDate ∷ ShipMode ∷ []

-- the number of a row in a column is below its limit
abbrev pub FitsColumn : FactColumn → LineOrder → Type 0
FitsColumn column row = fact_value column row < limit_of column
