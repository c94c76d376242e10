-- Outside examples of the definitions: a small star of two members a dimension, three fact rows, and what queries over
-- them answer. The expected values were worked out by hand. The tests prove that the definitions give them.
use Rattle.std.specs.Prelude.{ℕ, ℤ, pos, negsuc, Some, None, List, [], ◌∷◌, codes, replicate}
use Rattle.cube_model.specs.declared.answer.Line.{Line}
use Rattle.cube_model.specs.declared.answer.Member.{Member}
use Rattle.cube_model.specs.declared.answer.Member.TheVariants.{All, Text}
use Rattle.cube_model.specs.declared.answer.Value.{Value}
use Rattle.cube_model.specs.declared.answer.Value.TheVariants.{Whole, Ratio}
use Rattle.cube_model.specs.declared.attr.Attr.{Attr}
use Rattle.cube_model.specs.declared.attr.Attr.TheVariants.{CustomerCity, CustomerRegion, SupplierCity, SupplierNation}
use Rattle.cube_model.specs.declared.attr.Attr.TheVariants.{PartBrand1, PartCategory, DateYear, DateYearmonthnum}
use Rattle.cube_model.specs.declared.attr.Attr.TheVariants.{DateYearmonth}
use Rattle.cube_model.specs.declared.measure.Agg.{Agg}
use Rattle.cube_model.specs.declared.measure.Agg.TheVariants.{Count, Sum, Avg}
use Rattle.cube_model.specs.declared.measure.Measure.TheVariants.{Revenue, Discounted, Profit}
use Rattle.cube_model.specs.declared.query.Cond.{Cond}
use Rattle.cube_model.specs.declared.query.Cond.TheVariants.{OneOf, Between, Quantity, Discount}
use Rattle.cube_model.specs.declared.query.Kind.{Kind}
use Rattle.cube_model.specs.declared.query.Kind.TheVariants.{Plain, Rollup, Cube}
use Rattle.cube_model.specs.declared.query.Query.{Query}
use Rattle.cube_model.specs.declared.rows.CustomerRow.{CustomerRow}
use Rattle.cube_model.specs.declared.rows.SupplierRow.{SupplierRow}
use Rattle.cube_model.specs.declared.rows.PartRow.{PartRow}
use Rattle.cube_model.specs.declared.rows.DateRow.{DateRow}
use Rattle.cube_model.specs.declared.rows.DimRows.{DimRows}
use Rattle.cube_model.specs.declared.rows.LineOrder.{LineOrder}

abbrev pub customer : ℕ → List ℕ → List ℕ → List ℕ → CustomerRow
customer key city nation region = record { key = key; city = city; nation = nation; region = region }

abbrev pub supplier : ℕ → List ℕ → List ℕ → List ℕ → SupplierRow
supplier key city nation region = record { key = key; city = city; nation = nation; region = region }

abbrev pub part : ℕ → List ℕ → List ℕ → List ℕ → PartRow
part key brand1 category mfgr = record { key = key; brand1 = brand1; category = category; mfgr = mfgr }

abbrev pub day : ℕ → List ℕ → List ℕ → List ℕ → List ℕ → DateRow
day key year yearmonthnum yearmonth weeknuminyear =
    record { key = key; year = year; yearmonthnum = yearmonthnum; yearmonth = yearmonth; weeknuminyear = weeknuminyear }

abbrev pub star : DimRows
star = record {
  customers = customer 1 (codes "UNITED KI1") (codes "UNITED KINGDOM") (codes "EUROPE")
      ∷ customer 2 (codes "UNITED ST3") (codes "UNITED STATES") (codes "AMERICA") ∷ [];
  suppliers = supplier 1 (codes "UNITED KI5") (codes "UNITED KINGDOM") (codes "EUROPE")
      ∷ supplier 2 (codes "UNITED ST0") (codes "UNITED STATES") (codes "AMERICA") ∷ [];
  parts = part 1 (codes "MFGR#1210") (codes "MFGR#12") (codes "MFGR#1")
      ∷ part 2 (codes "MFGR#142") (codes "MFGR#14") (codes "MFGR#1") ∷ [];
  dates = day 19930105 (codes "1993") (codes "199301") (codes "Jan1993") (codes "1")
      ∷ day 19971202 (codes "1997") (codes "199712") (codes "Dec1997") (codes "49") ∷ [];
}

-- a fact row by its keys and numbers
abbrev pub fact : ℕ → ℕ → ℕ → ℕ → ℕ → ℕ → ℕ → ℕ → ℕ → ℕ → LineOrder
fact orderkey custkey partkey suppkey orderdate quantity price discount revenue cost = record {
  orderkey = orderkey;
  linenumber = 1;
  custkey = custkey;
  partkey = partkey;
  suppkey = suppkey;
  orderdate = orderdate;
  orderpriority = codes "5-LOW";
  shippriority = codes "0";
  quantity = quantity;
  extendedprice = price;
  ordtotalprice = price;
  discount = discount;
  revenue = revenue;
  supplycost = cost;
  tax = 0;
  commitdate = codes "19980101";
  shipmode = codes "AIR";
}

abbrev pub facts : List LineOrder
facts = fact 1 1 1 1 19930105 17 1000 2 980 600
    ∷ fact 2 2 2 2 19971202 24 2000 3 1940 2000
    ∷ fact 3 1 2 1 19971202 25 500 1 495 100 ∷ []

-- a query with no order
abbrev pub asks : Kind → List Attr → List Cond → List Agg → Query
asks kind columns conditions aggregates =
    record { kind = kind; columns = columns; conditions = conditions; aggregates = aggregates; order = None }

abbrev pub line : List Member → List Value → Line
line key values = record { key = key; values = values }

abbrev pub whole : ℕ → Value
whole n = Whole (pos n)

abbrev pub ratio : ℤ → ℕ → Value
ratio numerator denominator = Ratio (record { numerator = numerator; denominator = denominator })

abbrev pub text : List ℕ → Member
text bytes = Text bytes

-- the discounted sum of 1993, at discounts 1 to 3 and quantities 0 to 24
abbrev pub discounted_query : Query
discounted_query = asks Plain [] (OneOf DateYear (codes "1993" ∷ []) ∷ Discount 1 3 ∷ Quantity 0 24 ∷ [])
    (Sum Discounted ∷ [])

abbrev pub discounted_lines : List Line
discounted_lines = line [] (whole 2000 ∷ []) ∷ []

-- the revenue between two cities in December 1997
abbrev pub cities_query : Query
cities_query = asks Plain (CustomerCity ∷ SupplierCity ∷ DateYear ∷ [])
    (OneOf CustomerCity (codes "UNITED KI1" ∷ codes "UNITED KI5" ∷ [])
    ∷ OneOf SupplierCity (codes "UNITED KI1" ∷ codes "UNITED KI5" ∷ []) ∷ OneOf DateYearmonth (codes "Dec1997" ∷ [])
    ∷ [])
    (Sum Revenue ∷ [])

abbrev pub cities_lines : List Line
cities_lines = line (text (codes "UNITED KI1") ∷ text (codes "UNITED KI5") ∷ text (codes "1997") ∷ []) (whole 495 ∷ [])
    ∷ []

-- the profit of a category's brands with the suppliers of a nation
abbrev pub profit_query : Query
profit_query = asks Plain (DateYear ∷ SupplierCity ∷ PartBrand1 ∷ [])
    (OneOf CustomerRegion (codes "AMERICA" ∷ []) ∷ OneOf SupplierNation (codes "UNITED STATES" ∷ [])
    ∷ OneOf DateYear (codes "1997" ∷ codes "1998" ∷ []) ∷ OneOf PartCategory (codes "MFGR#14" ∷ []) ∷ [])
    (Sum Profit ∷ [])

abbrev pub profit_lines : List Line
profit_lines = line (text (codes "1997") ∷ text (codes "UNITED ST0") ∷ text (codes "MFGR#142") ∷ [])
    (Whole (negsuc 59) ∷ []) ∷ []

-- a cube by region and year, with an average
abbrev pub cube_query : Query
cube_query = asks Cube (CustomerRegion ∷ DateYear ∷ []) [] (Count ∷ Sum Revenue ∷ Avg Revenue ∷ [])

abbrev pub cube_line : Member → Member → ℕ → ℕ → ℕ → ℕ → Line
cube_line region year count sum numerator denominator =
    line (region ∷ year ∷ []) (whole count ∷ whole sum ∷ ratio (pos numerator) denominator ∷ [])

abbrev pub cube_lines : List Line
cube_lines = cube_line (text (codes "AMERICA")) (text (codes "1997")) 1 1940 1940 1
    ∷ cube_line (text (codes "AMERICA")) All 1 1940 1940 1
    ∷ cube_line (text (codes "EUROPE")) (text (codes "1993")) 1 980 980 1
    ∷ cube_line (text (codes "EUROPE")) (text (codes "1997")) 1 495 495 1
    ∷ cube_line (text (codes "EUROPE")) All 2 1475 1475 2
    ∷ cube_line All (text (codes "1993")) 1 980 980 1
    ∷ cube_line All (text (codes "1997")) 2 2435 2435 2
    ∷ cube_line All All 3 3415 3415 3 ∷ []

-- a rollup from years to months
abbrev pub rollup_query : Query
rollup_query = asks Rollup (DateYear ∷ DateYearmonthnum ∷ []) [] (Sum Revenue ∷ [])

abbrev pub rollup_lines : List Line
rollup_lines = line (text (codes "1993") ∷ text (codes "199301") ∷ []) (whole 980 ∷ [])
    ∷ line (text (codes "1993") ∷ All ∷ []) (whole 980 ∷ [])
    ∷ line (text (codes "1997") ∷ text (codes "199712") ∷ []) (whole 2435 ∷ [])
    ∷ line (text (codes "1997") ∷ All ∷ []) (whole 2435 ∷ [])
    ∷ line (All ∷ All ∷ []) (whole 3415 ∷ []) ∷ []

-- averages that do not come out even, and one below 0
abbrev pub average_query : Query
average_query = asks Rollup (CustomerRegion ∷ []) [] (Avg Profit ∷ [])

abbrev pub average_lines : List Line
average_lines = line (text (codes "AMERICA") ∷ []) (ratio (negsuc 59) 1 ∷ [])
    ∷ line (text (codes "EUROPE") ∷ []) (ratio (pos 775) 2 ∷ [])
    ∷ line (All ∷ []) (ratio (pos 715) 3 ∷ []) ∷ []

-- an empty selection has no line, not even a grand total
abbrev pub empty_query : Query
empty_query = asks Cube (CustomerRegion ∷ []) (OneOf CustomerRegion (codes "ASIA" ∷ []) ∷ []) (Count ∷ [])

-- a range of texts goes by bytes, both ends included
abbrev pub range_query : Query
range_query = asks Plain (PartBrand1 ∷ []) (Between PartBrand1 (codes "MFGR#1210") (codes "MFGR#141") ∷ []) (Count ∷ [])

abbrev pub range_lines : List Line
range_lines = line (text (codes "MFGR#1210") ∷ []) (whole 1 ∷ []) ∷ []

-- by year, then falling by an aggregate, then by the key
abbrev pub ordered_query : Agg → Query
ordered_query aggregate = record {
  kind = Plain;
  columns = CustomerRegion ∷ DateYear ∷ [];
  conditions = [];
  aggregates = aggregate ∷ [];
  order = Some (record { column = 1; aggregate = 0 });
}

-- the counts tie within 1997, so these two lines go by their keys
abbrev pub tied_lines : List Line
tied_lines = line (text (codes "EUROPE") ∷ text (codes "1993") ∷ []) (whole 1 ∷ [])
    ∷ line (text (codes "AMERICA") ∷ text (codes "1997") ∷ []) (whole 1 ∷ [])
    ∷ line (text (codes "EUROPE") ∷ text (codes "1997") ∷ []) (whole 1 ∷ []) ∷ []

abbrev pub falling_lines : List Line
falling_lines = line (text (codes "EUROPE") ∷ text (codes "1993") ∷ []) (whole 380 ∷ [])
    ∷ line (text (codes "EUROPE") ∷ text (codes "1997") ∷ []) (whole 395 ∷ [])
    ∷ line (text (codes "AMERICA") ∷ text (codes "1997") ∷ []) (Whole (negsuc 59) ∷ []) ∷ []

-- the star with other rows in one dimension
abbrev pub with_customers : List CustomerRow → DimRows
with_customers rows = record star { customers = rows }

abbrev pub with_dates : List DateRow → DimRows
with_dates rows = record star { dates = rows }

abbrev pub kingdom_customer : ℕ → CustomerRow
kingdom_customer key = customer key (codes "UNITED KI1") (codes "UNITED KINGDOM") (codes "EUROPE")

-- one fact row like the first, with another price, revenue and cost
abbrev pub money : ℕ → ℕ → ℕ → LineOrder
money price revenue cost = fact 1 1 1 1 19930105 17 price 2 revenue cost

-- one fact row like the first, with a ship mode of some bytes
abbrev pub long_shipmode : ℕ → LineOrder
long_shipmode length = record (money 1000 980 600) { shipmode = replicate length 65 }
