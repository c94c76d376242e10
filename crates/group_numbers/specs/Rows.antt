-- Fact rows by their places. Our own.
use Rattle.std.specs.Prelude.{ℕ, List, [], slice_index_or}
use Rattle.cube_model.specs.declared.rows.LineOrder.{LineOrder}

-- a fact row of zeros and empty texts
abbrev pub no_row : LineOrder
no_row = record {
  orderkey = 0;
  linenumber = 0;
  custkey = 0;
  partkey = 0;
  suppkey = 0;
  orderdate = 0;
  orderpriority = [];
  shippriority = [];
  quantity = 0;
  extendedprice = 0;
  ordtotalprice = 0;
  discount = 0;
  revenue = 0;
  supplycost = 0;
  tax = 0;
  commitdate = [];
  shipmode = [];
}

-- the row at a place
abbrev pub row_at : List LineOrder → ℕ → LineOrder
row_at rows place = slice_index_or rows place no_row
