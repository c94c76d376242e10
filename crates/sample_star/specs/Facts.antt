-- The fact rows that constants mean.
use Rattle.std.specs.Prelude.{ℕ, min}
use Rattle.cube_model.specs.declared.rows.LineOrder.{LineOrder}
use Rattle.sample_star.specs.declared.facts.Fact.{Fact}

-- a number of money, at most the greatest that there is
abbrev pub money_of : ℕ → ℕ
money_of number = min number 9223372036854775807

abbrev pub line_order_of : Fact → LineOrder
line_order_of fact = record {
  orderkey = money_of fact.orderkey;
  linenumber = fact.linenumber;
  custkey = fact.custkey;
  partkey = fact.partkey;
  suppkey = fact.suppkey;
  orderdate = fact.orderdate;
  orderpriority = fact.orderpriority.now;
  shippriority = fact.shippriority.now;
  quantity = fact.quantity;
  extendedprice = money_of fact.extendedprice;
  ordtotalprice = money_of fact.ordtotalprice;
  discount = fact.discount;
  revenue = money_of fact.revenue;
  supplycost = money_of fact.supplycost;
  tax = fact.tax;
  commitdate = fact.commitdate.now;
  shipmode = fact.shipmode.now;
}
