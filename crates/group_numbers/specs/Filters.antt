-- Filters: the keys of dimensions whose rows fail a condition of a query. Our own.
use Rattle.std.specs.Prelude.{◌≡◌, ℕ, ◌-◌, nat_lt, Bool, true, false, cond, None, slice_get, unwrap_or}
use Rattle.cube_model.specs.declared.attr.Axis.{Axis}
use Rattle.cube_model.specs.declared.attr.Axis.TheVariants.{Customer, Supplier, Part, Date}
use Rattle.cube_model.specs.declared.query.Query.{Query}
use Rattle.cube_model.specs.declared.rows.DimRows.{DimRows}
use Rattle.cube_model.specs.Places.{row_index_of}
use Rattle.group_numbers.specs.Parts.{given_at}
use Rattle.group_numbers.specs.declared.filter.Filter.{Filter}
use Rattle.group_numbers.specs.declared.filters.Filters.{Filters}

-- a key passes a filter: one that is not spanned does
abbrev pub passes : Filter → ℕ → Bool
passes made key = cond (nat_lt key made.first) true (unwrap_or (slice_get made.passes.items (key - made.first)) true)

-- each key that does not pass is that of a row at which a condition fails
abbrev pub IsFilter : DimRows → Query → Axis → Filter → Type 0
IsFilter dimensions query axis made = (key : ℕ) → passes made key ≡ false
    → given_at dimensions query axis (row_index_of dimensions axis key) ≡ None

-- the filter of a dimension
abbrev pub filter_in : Filters → Axis → Filter
filter_in filters Customer = filters.customers
filter_in filters Supplier = filters.suppliers
filter_in filters Part = filters.parts
filter_in filters Date = filters.dates

-- filters of a query, one for each dimension
abbrev pub AreFilters : DimRows → Query → Filters → Type 0
AreFilters dimensions query filters = (axis : Axis) → IsFilter dimensions query axis (filter_in filters axis)
