-- The thirteen queries of the Star Schema Benchmark, revision 3, in its four flights. Each is a sum over plain groups.
-- Where copies of the benchmark differ in a constant, ours is one of theirs.
use Rattle.std.specs.Prelude.{ℕ, List, [], ◌∷◌, None, Some, codes}
use Rattle.cube_model.specs.declared.attr.Attr.{Attr}
use Rattle.cube_model.specs.declared.attr.Attr.TheVariants.{CustomerCity, CustomerNation, CustomerRegion, SupplierCity}
use Rattle.cube_model.specs.declared.attr.Attr.TheVariants.{SupplierNation, SupplierRegion, PartBrand1, PartCategory}
use Rattle.cube_model.specs.declared.attr.Attr.TheVariants.{PartMfgr, DateYearmonthnum, DateYear, DateYearmonth}
use Rattle.cube_model.specs.declared.attr.Attr.TheVariants.{DateWeeknuminyear}
use Rattle.cube_model.specs.declared.measure.Agg.TheVariants.{Sum}
use Rattle.cube_model.specs.declared.measure.Measure.{Measure}
use Rattle.cube_model.specs.declared.measure.Measure.TheVariants.{Revenue, Discounted, Profit}
use Rattle.cube_model.specs.declared.query.Cond.{Cond}
use Rattle.cube_model.specs.declared.query.Cond.TheVariants.{OneOf, Between, Quantity, Discount}
use Rattle.cube_model.specs.declared.query.Kind.TheVariants.{Plain}
use Rattle.cube_model.specs.declared.query.Query.{Query}
use Rattle.ssb_reports.specs.declared.number.QNumber.{QNumber}
use Rattle.ssb_reports.specs.declared.number.QNumber.TheVariants.{Q11, Q12, Q13, Q21, Q22, Q23, Q31, Q32, Q33, Q34, Q41}
use Rattle.ssb_reports.specs.declared.number.QNumber.TheVariants.{Q42, Q43}

-- the number of a query, as words and the benchmark name it
abbrev pub query_number_text : QNumber → List ℕ
query_number_text Q11 = codes "1.1"
query_number_text Q12 = codes "1.2"
query_number_text Q13 = codes "1.3"
query_number_text Q21 = codes "2.1"
query_number_text Q22 = codes "2.2"
query_number_text Q23 = codes "2.3"
query_number_text Q31 = codes "3.1"
query_number_text Q32 = codes "3.2"
query_number_text Q33 = codes "3.3"
query_number_text Q34 = codes "3.4"
query_number_text Q41 = codes "4.1"
query_number_text Q42 = codes "4.2"
query_number_text Q43 = codes "4.3"

-- an attribute is a text
abbrev pub is : Attr → List ℕ → Cond
is attr text = OneOf attr (text ∷ [])

-- an attribute is one of two texts
abbrev pub is_either : Attr → List ℕ → List ℕ → Cond
is_either attr text other = OneOf attr (text ∷ other ∷ [])

-- the sum of a measure by columns, over the rows of which conditions hold, in order by the key
abbrev pub sum_of : Measure → List Attr → List Cond → Query
sum_of measure columns conditions = record {
  kind = Plain;
  columns = columns;
  conditions = conditions;
  aggregates = Sum measure ∷ [];
  order = None;
}

-- the same in order by the third column, in which the years are, and in a year from the greatest sum down
abbrev pub by_year_and_sum : Query → Query
by_year_and_sum query = record query { order = Some (record { column = 2; aggregate = 0 }) }

abbrev pub cities : List Attr
cities = CustomerCity ∷ SupplierCity ∷ DateYear ∷ []

abbrev pub from_1992_to_1997 : Cond
from_1992_to_1997 = Between DateYear (codes "1992") (codes "1997")

abbrev pub in_two_cities : Attr → Cond
in_two_cities attr = is_either attr (codes "UNITED KI1") (codes "UNITED KI5")

-- the queries
abbrev pub benchmark_query : QNumber → Query
benchmark_query Q11 = sum_of Discounted [] (is DateYear (codes "1993") ∷ Discount 1 3 ∷ Quantity 0 24 ∷ [])
benchmark_query Q12 = sum_of Discounted [] (is DateYearmonthnum (codes "199401") ∷ Discount 4 6 ∷ Quantity 26 35 ∷ [])
benchmark_query Q13 =
    sum_of Discounted [] (is DateWeeknuminyear (codes "6") ∷ is DateYear (codes "1994") ∷ Discount 5 7 ∷ Quantity 26 35
    ∷ [])
benchmark_query Q21 =
    sum_of Revenue (DateYear ∷ PartBrand1 ∷ []) (is PartCategory (codes "MFGR#12") ∷ is SupplierRegion (codes "AMERICA")
    ∷ [])
benchmark_query Q22 =
    sum_of Revenue (DateYear ∷ PartBrand1 ∷ [])
    (Between PartBrand1 (codes "MFGR#2221") (codes "MFGR#2228") ∷ is SupplierRegion (codes "ASIA") ∷ [])
benchmark_query Q23 =
    sum_of Revenue (DateYear ∷ PartBrand1 ∷ []) (is PartBrand1 (codes "MFGR#2239") ∷ is SupplierRegion (codes "EUROPE")
    ∷ [])
benchmark_query Q31 =
    by_year_and_sum
    (sum_of Revenue (CustomerNation ∷ SupplierNation ∷ DateYear ∷ [])
    (is CustomerRegion (codes "ASIA") ∷ is SupplierRegion (codes "ASIA") ∷ from_1992_to_1997 ∷ []))
benchmark_query Q32 =
    by_year_and_sum
    (sum_of Revenue cities (is CustomerNation (codes "UNITED STATES") ∷ is SupplierNation (codes "UNITED STATES")
    ∷ from_1992_to_1997 ∷ []))
benchmark_query Q33 =
    by_year_and_sum
    (sum_of Revenue cities (in_two_cities CustomerCity ∷ in_two_cities SupplierCity ∷ from_1992_to_1997 ∷ []))
benchmark_query Q34 =
    by_year_and_sum
    (sum_of Revenue cities (in_two_cities CustomerCity ∷ in_two_cities SupplierCity ∷ is DateYearmonth (codes "Dec1997")
    ∷ []))
benchmark_query Q41 =
    sum_of Profit (DateYear ∷ CustomerNation ∷ [])
    (is CustomerRegion (codes "AMERICA") ∷ is SupplierRegion (codes "AMERICA")
    ∷ is_either PartMfgr (codes "MFGR#1") (codes "MFGR#2") ∷ [])
benchmark_query Q42 =
    sum_of Profit (DateYear ∷ SupplierNation ∷ PartCategory ∷ [])
    (is CustomerRegion (codes "AMERICA") ∷ is SupplierRegion (codes "AMERICA")
    ∷ is_either PartMfgr (codes "MFGR#1") (codes "MFGR#2") ∷ is_either DateYear (codes "1997") (codes "1998") ∷ [])
benchmark_query Q43 =
    sum_of Profit (DateYear ∷ SupplierCity ∷ PartBrand1 ∷ [])
    (is CustomerRegion (codes "AMERICA") ∷ is SupplierNation (codes "UNITED STATES")
    ∷ is_either DateYear (codes "1997") (codes "1998") ∷ is PartCategory (codes "MFGR#14") ∷ [])
