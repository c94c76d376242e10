-- The names by which the program reads and prints dimensions, attributes, measures and aggregates.
-- The attributes' names are the benchmark's; the others are our own.
use Rattle.std.specs.Prelude.{ℕ, List, ◌++◌, codes}
use Rattle.cube_model.specs.declared.attr.Axis.{Axis}
use Rattle.cube_model.specs.declared.attr.Axis.TheVariants.{Customer, Supplier, Part, Date}
use Rattle.cube_model.specs.declared.attr.Attr.{Attr}
use Rattle.cube_model.specs.declared.attr.Attr.TheVariants.{CustomerCity, CustomerNation, CustomerRegion, SupplierCity}
use Rattle.cube_model.specs.declared.attr.Attr.TheVariants.{SupplierNation, SupplierRegion, PartBrand1, PartCategory}
use Rattle.cube_model.specs.declared.attr.Attr.TheVariants.{PartMfgr, DateKey, DateYearmonthnum, DateYear}
use Rattle.cube_model.specs.declared.attr.Attr.TheVariants.{DateYearmonth, DateWeeknuminyear}
use Rattle.cube_model.specs.declared.measure.Agg.{Agg}
use Rattle.cube_model.specs.declared.measure.Agg.TheVariants.{Count, Sum, Min, Max, Avg}
use Rattle.cube_model.specs.declared.measure.Measure.{Measure}
use Rattle.cube_model.specs.declared.measure.Measure.TheVariants.{Quantity, ExtendedPrice, Revenue, SupplyCost}
use Rattle.cube_model.specs.declared.measure.Measure.TheVariants.{Discounted, Profit}

abbrev pub axis_name : Axis → List ℕ
axis_name Customer = codes "customer"
axis_name Supplier = codes "supplier"
axis_name Part = codes "part"
axis_name Date = codes "date"

abbrev pub attr_name : Attr → List ℕ
attr_name CustomerCity = codes "c_city"
attr_name CustomerNation = codes "c_nation"
attr_name CustomerRegion = codes "c_region"
attr_name SupplierCity = codes "s_city"
attr_name SupplierNation = codes "s_nation"
attr_name SupplierRegion = codes "s_region"
attr_name PartBrand1 = codes "p_brand1"
attr_name PartCategory = codes "p_category"
attr_name PartMfgr = codes "p_mfgr"
attr_name DateKey = codes "d_datekey"
attr_name DateYearmonthnum = codes "d_yearmonthnum"
attr_name DateYear = codes "d_year"
attr_name DateYearmonth = codes "d_yearmonth"
attr_name DateWeeknuminyear = codes "d_weeknuminyear"

abbrev pub measure_name : Measure → List ℕ
measure_name Quantity = codes "quantity"
measure_name ExtendedPrice = codes "extendedprice"
measure_name Revenue = codes "revenue"
measure_name SupplyCost = codes "supplycost"
measure_name Discounted = codes "discounted"
measure_name Profit = codes "profit"

-- an aggregate as the header of a report names it, such as sum(revenue)
abbrev pub agg_name : Agg → List ℕ
agg_name Count = codes "count"
agg_name (Sum measure) = codes "sum(" ++ (measure_name measure ++ codes ")")
agg_name (Min measure) = codes "min(" ++ (measure_name measure ++ codes ")")
agg_name (Max measure) = codes "max(" ++ (measure_name measure ++ codes ")")
agg_name (Avg measure) = codes "avg(" ++ (measure_name measure ++ codes ")")
