-- The numbers of a row in two parts, as they are read. Our own.
use Rattle.cube_model.specs.declared.rows.LineOrder.{LineOrder}
use Rattle.column_segment.specs.declared.rows.RowFigures.{RowFigures}
use Rattle.column_segment.specs.declared.rows.RowKeys.{RowKeys}

-- the keys of a row
abbrev pub row_keys_of : LineOrder → RowKeys
row_keys_of row =
    record {
      orderkey = row.orderkey;
      linenumber = row.linenumber;
      custkey = row.custkey;
      partkey = row.partkey;
      suppkey = row.suppkey;
      orderdate = row.orderdate;
    }

-- its figures
abbrev pub figures_of : LineOrder → RowFigures
figures_of row =
    record {
      quantity = row.quantity;
      extendedprice = row.extendedprice;
      ordtotalprice = row.ordtotalprice;
      discount = row.discount;
      revenue = row.revenue;
      supplycost = row.supplycost;
      tax = row.tax;
    }
