-- The levels of an axis: three of its hierarchy, and ALL, the value that means every member (Gray et al. 1997).
-- Which levels an axis has is our own choice of the benchmark's columns.
use Rattle.std.specs.Prelude.{ℕ, List, [], ◌∷◌, Option, Some, None, codes}
use Rattle.cube_model.specs.declared.attr.Attr.{Attr}
use Rattle.cube_model.specs.declared.attr.Attr.TheVariants.{CustomerCity, CustomerNation, CustomerRegion, SupplierCity}
use Rattle.cube_model.specs.declared.attr.Attr.TheVariants.{SupplierNation, SupplierRegion, PartBrand1, PartCategory}
use Rattle.cube_model.specs.declared.attr.Attr.TheVariants.{PartMfgr, DateKey, DateYearmonthnum, DateYear}
use Rattle.cube_model.specs.declared.attr.Axis.{Axis}
use Rattle.cube_model.specs.declared.attr.Axis.TheVariants.{Customer, Supplier, Part, Date}
use Rattle.lattice.specs.declared.level.Level.{Level}
use Rattle.lattice.specs.declared.level.Level.TheVariants.{Lowest, Middle, Highest, All}

-- how high a level is
abbrev pub height : Level → ℕ
height Lowest = 0
height Middle = 1
height Highest = 2
height All = 3

-- the levels of an axis, from the lowest on
abbrev pub levels : List Level
levels = Lowest ∷ Middle ∷ Highest ∷ All ∷ []

-- the attribute whose members a level has. A day is its key, a month its number
abbrev pub level_attribute : Axis → Level → Option Attr
level_attribute Customer Lowest = Some CustomerCity
level_attribute Customer Middle = Some CustomerNation
level_attribute Customer Highest = Some CustomerRegion
level_attribute Supplier Lowest = Some SupplierCity
level_attribute Supplier Middle = Some SupplierNation
level_attribute Supplier Highest = Some SupplierRegion
level_attribute Part Lowest = Some PartBrand1
level_attribute Part Middle = Some PartCategory
level_attribute Part Highest = Some PartMfgr
level_attribute Date Lowest = Some DateKey
level_attribute Date Middle = Some DateYearmonthnum
level_attribute Date Highest = Some DateYear
level_attribute _ All = None

-- the names of the levels of an axis: those of the benchmark's columns
abbrev pub level_name : Axis → Level → List ℕ
level_name Customer Lowest = codes "city"
level_name Customer Middle = codes "nation"
level_name Customer Highest = codes "region"
level_name Supplier Lowest = codes "city"
level_name Supplier Middle = codes "nation"
level_name Supplier Highest = codes "region"
level_name Part Lowest = codes "brand1"
level_name Part Middle = codes "category"
level_name Part Highest = codes "mfgr"
level_name Date Lowest = codes "day"
level_name Date Middle = codes "month"
level_name Date Highest = codes "year"
level_name _ All = codes "ALL"
