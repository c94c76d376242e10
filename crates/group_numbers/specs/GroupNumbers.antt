-- What group numbers keep. Our own.
use Rattle.std.specs.Prelude.{◌≡◌, ℕ, ◌<◌, ◌≤◌, ◌^◌, ◌&&◌, nat_le, Bool, false, min, max, Option, Some, None, List}
use Rattle.std.specs.Prelude.{length, slice_get, unwrap_or}
use Rattle.std.specs.List.{list_all}
use Rattle.cube_model.specs.declared.attr.Axis.{Axis}
use Rattle.cube_model.specs.declared.attr.Axis.TheVariants.{Customer, Supplier, Part, Date}
use Rattle.cube_model.specs.declared.query.Cond.{Cond}
use Rattle.cube_model.specs.declared.query.Cond.TheVariants.{OneOf, Between, Quantity, Discount}
use Rattle.cube_model.specs.declared.query.Query.{Query}
use Rattle.cube_model.specs.declared.rows.DimRows.{DimRows}
use Rattle.cube_model.specs.declared.rows.LineOrder.{LineOrder}
use Rattle.cube_model.specs.Places.{row_index_of, row_count_of}
use Rattle.group_numbers.specs.Beginnings.{AreThoseOf}
use Rattle.group_numbers.specs.Columns.{AreColumns}
use Rattle.group_numbers.specs.Filters.{AreFilters}
use Rattle.group_numbers.specs.Kinds.{kind_at}
use Rattle.group_numbers.specs.Numbers.{group_count, KeysRise}
use Rattle.group_numbers.specs.Parts.{given_at, holds_in, is_used}
use Rattle.group_numbers.specs.declared.bounds.Bounds.{Bounds}
use Rattle.group_numbers.specs.declared.group_numbers.GroupNumbers.{GroupNumbers}
use Rattle.group_numbers.specs.declared.side.Side.{Side}
use Rattle.group_numbers.specs.declared.side.Side.TheVariants.{Unused, Narrow, Wide}
use Rattle.group_numbers.specs.declared.sides.Sides.{Sides}

-- what a side gives at a kind
abbrev pub gives : Side → ℕ → Option ℕ
gives Unused kind = Some 0
gives (Narrow parts) kind = unwrap_or (slice_get parts.items kind) None
gives (Wide parts) kind = unwrap_or (slice_get parts.items kind) None

-- a side gives at the kind of each row of its dimension what the row does
abbrev pub IsSide : DimRows → Query → Axis → Side → Type 0
IsSide dimensions query axis side = (place : ℕ) → place < row_count_of dimensions axis
    → gives side (kind_at dimensions axis place) ≡ given_at dimensions query axis place

-- a key is that of a row that gives nothing
abbrev pub IsShut : DimRows → Axis → Side → ℕ → Type 0
IsShut dimensions axis side key = (row_index_of dimensions axis key < row_count_of dimensions axis)
    × (gives side (kind_at dimensions axis (row_index_of dimensions axis key)) ≡ None)

-- bounds with those of one condition more
abbrev pub bounds_with : Bounds → Cond → Bounds
bounds_with bounds (OneOf attr texts) = bounds
bounds_with bounds (Between attr low high) = bounds
bounds_with bounds (Quantity low high) = record {
  least_quantity = max bounds.least_quantity low;
  greatest_quantity = min bounds.greatest_quantity high;
  least_discount = bounds.least_discount;
  greatest_discount = bounds.greatest_discount;
}
bounds_with bounds (Discount low high) = record {
  least_quantity = bounds.least_quantity;
  greatest_quantity = bounds.greatest_quantity;
  least_discount = max bounds.least_discount low;
  greatest_discount = min bounds.greatest_discount high;
}

-- a quantity and a discount lie within bounds
abbrev pub is_within : Bounds → ℕ → ℕ → Bool
is_within bounds quantity discount = nat_le bounds.least_quantity quantity && (nat_le quantity bounds.greatest_quantity
    && (nat_le bounds.least_discount discount && nat_le discount bounds.greatest_discount))

-- bounds say what some conditions say of the numbers of a fact row
abbrev pub AreBounds : List Cond → Bounds → Type 0
AreBounds conditions bounds = (row : LineOrder) → row.quantity < 256 → row.discount < 256
    → is_within bounds row.quantity row.discount ≡ list_all (holds_in row) conditions

-- what is kept of a dimension
abbrev pub side_in : Sides → Axis → Side
side_in sides Customer = sides.customers
side_in sides Supplier = sides.suppliers
side_in sides Part = sides.parts
side_in sides Date = sides.dates

-- what is kept of each dimension is what its rows give, and those that are not looked at are those that are not used
pub record AreSides (dimensions : DimRows) (query : Query) (sides : Sides) : Type 0 where
  pub each : (axis : Axis) → IsSide dimensions query axis (side_in sides axis)
  pub unused : (axis : Axis) → side_in sides axis ≡ Unused → is_used query axis ≡ false
  pub used : (axis : Axis) → is_used query axis ≡ false → side_in sides axis ≡ Unused

-- what is kept of a dimension
abbrev pub side_of : GroupNumbers → Axis → Side
side_of grouping axis = side_in grouping.sides axis

-- the query whose groups are numbered
abbrev pub query_of : GroupNumbers → Query
query_of grouping = grouping.query

-- how many groups are numbered
abbrev pub count_of : GroupNumbers → ℕ
count_of grouping = grouping.count

-- Group numbers made over dimensions: their tables say what the query does at each row, and keys rise with numbers.
pub record IsGroupNumbersOf (dimensions : DimRows) (grouping : GroupNumbers) : Type 0 where
  pub few : length grouping.query.columns ≤ 6
  pub within : AreBounds grouping.query.conditions grouping.bounds
  pub sides : AreSides dimensions grouping.query grouping.sides
  pub filters : AreFilters dimensions grouping.query grouping.filters
  pub columns : AreColumns dimensions grouping.query.columns (length grouping.query.columns) grouping.columns.items
  pub rising : KeysRise dimensions grouping.query.columns
  pub counted : grouping.count ≡ group_count dimensions grouping.query.columns
  pub fits : grouping.count < 2 ^ 128

-- Group numbers with the dimensions of their beginning. Who hands dimensions to them hands them these.
pub record IsGroupNumbersOver (dimensions : DimRows) (grouping : GroupNumbers) : Type 0 where
  pub beginning : DimRows
  pub made : IsGroupNumbersOf beginning grouping
  pub those : AreThoseOf beginning dimensions
