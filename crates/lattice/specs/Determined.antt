-- Which attributes a view tells, and so which queries its cells can answer. The hierarchy is the benchmark's: a city
-- has one nation, a nation one region, a brand one category, a category one manufacturer, a day one month and one week
-- of the year, a month one year and one text of month and year. A month has no one week, and a year tells neither.
use Rattle.std.specs.Prelude.{◌≤◌, ℕ, Option, List}
use Rattle.std.specs.List.{AllByRecursion}
use Rattle.std.specs.Option.{option_and_then}
use Rattle.cube_model.specs.declared.attr.Attr.{Attr}
use Rattle.cube_model.specs.declared.attr.Attr.TheVariants.{CustomerCity, CustomerNation, CustomerRegion, SupplierCity}
use Rattle.cube_model.specs.declared.attr.Attr.TheVariants.{SupplierNation, SupplierRegion, PartBrand1, PartCategory}
use Rattle.cube_model.specs.declared.attr.Attr.TheVariants.{PartMfgr, DateKey, DateYearmonthnum, DateYear}
use Rattle.cube_model.specs.declared.attr.Attr.TheVariants.{DateYearmonth, DateWeeknuminyear}
use Rattle.cube_model.specs.declared.attr.Axis.{Axis}
use Rattle.cube_model.specs.declared.query.Cond.{Cond}
use Rattle.cube_model.specs.declared.query.Cond.TheVariants.{OneOf, Between, Quantity, Discount}
use Rattle.cube_model.specs.declared.query.Query.{Query}
use Rattle.cube_model.specs.declared.rows.DimRows.{DimRows}
use Rattle.cube_model.specs.Attributes.{axis_of, attribute_at}
use Rattle.lattice.specs.declared.level.Level.{Level}
use Rattle.lattice.specs.declared.level.Level.TheVariants.{Lowest, Middle, Highest}
use Rattle.lattice.specs.declared.view.View.{View}
use Rattle.lattice.specs.Levels.{height, level_attribute}
use Rattle.lattice.specs.Views.{level_on}

-- the highest level of its axis that determines an attribute; those below it do too
abbrev pub highest_level : Attr → Level
highest_level CustomerCity = Lowest
highest_level CustomerNation = Middle
highest_level CustomerRegion = Highest
highest_level SupplierCity = Lowest
highest_level SupplierNation = Middle
highest_level SupplierRegion = Highest
highest_level PartBrand1 = Lowest
highest_level PartCategory = Middle
highest_level PartMfgr = Highest
highest_level DateKey = Lowest
highest_level DateWeeknuminyear = Lowest
highest_level DateYearmonthnum = Middle
highest_level DateYearmonth = Middle
highest_level DateYear = Highest

-- the member that a key of a dimension has at a level: the text of the level's attribute. ALL has none
abbrev pub member_at : DimRows → Axis → Level → ℕ → Option (List ℕ)
member_at dimensions axis level key = option_and_then (attribute_at dimensions axis key) (level_attribute axis level)

-- the levels of a view determine an attribute
abbrev pub Determines : View → Attr → Type 0
Determines view attr = height (level_on (axis_of attr) view) ≤ height (highest_level attr)

-- the cells of a view can say of which of its rows a condition holds: quantity and discount are in no cell
abbrev pub Decides : View → Cond → Type 0
Decides view (OneOf attr texts) = Determines view attr
Decides view (Between attr low high) = Determines view attr
Decides view (Quantity low high) = ⊥
Decides view (Discount low high) = ⊥

-- the cells of a view have what a query asks for
pub record Serves (view : View) (query : Query) : Type 0 where
  pub columns : AllByRecursion (Determines view) query.columns
  pub conditions : AllByRecursion (Decides view) query.conditions
