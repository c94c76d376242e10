-- The columns of fact rows at which a query looks. Our own.
use Rattle.std.specs.Prelude.{◌≡◌, ◌||◌, Bool, true, false, List, [], ◌∷◌}
use Rattle.std.specs.List.{filter, list_any}
use Rattle.cube_model.specs.declared.attr.Axis.{Axis}
use Rattle.cube_model.specs.declared.attr.Axis.TheVariants.{Customer, Supplier, Part, Date}
use Rattle.cube_model.specs.declared.measure.Agg.{Agg}
use Rattle.cube_model.specs.declared.measure.Agg.TheVariants.{Count, Sum, Min, Max, Avg}
use Rattle.cube_model.specs.declared.measure.Measure.{Measure}
use Rattle.cube_model.specs.declared.measure.Measure.TheVariants as measures
use Rattle.cube_model.specs.declared.query.Cond.{Cond}
use Rattle.cube_model.specs.declared.query.Cond.TheVariants.{OneOf, Between, Quantity, Discount}
use Rattle.cube_model.specs.declared.query.Query.{Query}
use Rattle.cube_model.specs.declared.rows.LineOrder.{LineOrder}
use Rattle.cube_model.specs.Attributes.{axis_of}
use Rattle.column_segment.specs.declared.columns.FactColumn.TheVariants.{OrderKey, LineNumber, CustKey, PartKey}
use Rattle.column_segment.specs.declared.columns.FactColumn.TheVariants.{SuppKey, OrderDate, ExtendedPrice}
use Rattle.column_segment.specs.declared.columns.FactColumn.TheVariants.{OrdTotalPrice, Revenue, SupplyCost}
use Rattle.column_segment.specs.declared.columns.FactColumn.TheVariants as facts
use Rattle.column_segment.specs.declared.columns.FactColumn.{FactColumn}
use Rattle.column_segment.specs.Columns.{fact_value}

-- a column has the keys of a dimension
abbrev pub has_keys_of : Axis → FactColumn → Bool
has_keys_of Customer CustKey = true
has_keys_of Supplier SuppKey = true
has_keys_of Part PartKey = true
has_keys_of Date OrderDate = true
has_keys_of _ _ = false

-- a measure is made of what a column has
abbrev pub is_made_of : Measure → FactColumn → Bool
is_made_of measures.Quantity facts.Quantity = true
is_made_of measures.ExtendedPrice ExtendedPrice = true
is_made_of measures.Revenue Revenue = true
is_made_of measures.SupplyCost SupplyCost = true
is_made_of measures.Discounted ExtendedPrice = true
is_made_of measures.Discounted facts.Discount = true
is_made_of measures.Profit Revenue = true
is_made_of measures.Profit SupplyCost = true
is_made_of _ _ = false

-- a condition looks at a column
abbrev pub condition_asks : FactColumn → Cond → Bool
condition_asks column (OneOf attr texts) = has_keys_of (axis_of attr) column
condition_asks column (Between attr low high) = has_keys_of (axis_of attr) column
condition_asks column (Quantity low high) = is_made_of measures.Quantity column
condition_asks facts.Discount (Discount low high) = true
condition_asks column (Discount low high) = false

-- an aggregate looks at it
abbrev pub aggregate_asks : FactColumn → Agg → Bool
aggregate_asks column Count = false
aggregate_asks column (Sum measure) = is_made_of measure column
aggregate_asks column (Min measure) = is_made_of measure column
aggregate_asks column (Max measure) = is_made_of measure column
aggregate_asks column (Avg measure) = is_made_of measure column

-- a query looks at it: a column of the query, a condition or an aggregate does
abbrev pub is_asked : Query → FactColumn → Bool
is_asked query column = list_any (λ attr. has_keys_of (axis_of attr) column) query.columns
    || (list_any (condition_asks column) query.conditions || list_any (aggregate_asks column) query.aggregates)

-- the columns of numbers of fact rows, in the order of their places
abbrev pub fact_columns : List FactColumn
fact_columns = OrderKey ∷ LineNumber ∷ CustKey ∷ PartKey ∷ SuppKey ∷ OrderDate
    ∷ facts.Quantity
    ∷ ExtendedPrice ∷ OrdTotalPrice ∷ facts.Discount ∷ Revenue ∷ SupplyCost
    ∷ facts.Tax ∷ []

-- those at which a query looks
abbrev pub asked_columns : Query → List FactColumn
asked_columns query = filter (is_asked query) fact_columns

-- rows have the same in the columns that pass a test
abbrev pub SameIn : (FactColumn → Bool) → LineOrder → LineOrder → Type 0
SameIn asks row other = (column : FactColumn) → asks column ≡ true → fact_value column row ≡ fact_value column other

-- so have those of two lists, one by one
abbrev pub AreSame : (FactColumn → Bool) → List LineOrder → List LineOrder → Type 0
AreSame asks [] [] = Unit {0}
AreSame asks [] (other ∷ others) = ⊥
AreSame asks (row ∷ rows) [] = ⊥
AreSame asks (row ∷ rows) (other ∷ others) = SameIn asks row other × AreSame asks rows others
