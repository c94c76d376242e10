-- The sums of the absolute values of the measures, which decide whether a batch's sums pass their limit. Our own.
use Rattle.std.specs.Prelude.{ℕ, ◌+◌, ◌^◌, ◌<◌, nat_le, nat_abs, List, [], ◌∷◌, Option}
use Rattle.cube_model.specs.declared.fault.Fault.{Fault}
use Rattle.cube_model.specs.declared.fault.Fault.TheVariants.{SumRange}
use Rattle.cube_model.specs.declared.measure.Measure.{Measure}
use Rattle.cube_model.specs.declared.measure.Measure.TheVariants.{Quantity, ExtendedPrice, Revenue, SupplyCost}
use Rattle.cube_model.specs.declared.measure.Measure.TheVariants.{Discounted, Profit}
use Rattle.cube_model.specs.declared.rows.LineOrder.{LineOrder}
use Rattle.cube_model.specs.Admission.{absolute_total}
use Rattle.cube_model.specs.Causes.{first_cause, cause_if}
use Rattle.cube_model.specs.Measures.{measure_of}
use Rattle.cube_model.specs.declared.totals.Totals.{Totals}

-- a measure's absolute value at a fact row
abbrev pub measure_size : Measure → LineOrder → ℕ
measure_size measure row = nat_abs (measure_of measure row)

-- the total of each measure over some fact rows
abbrev pub totals_of : List LineOrder → Totals
totals_of rows = record {
  quantity = absolute_total Quantity rows;
  extendedprice = absolute_total ExtendedPrice rows;
  revenue = absolute_total Revenue rows;
  supplycost = absolute_total SupplyCost rows;
  discounted = absolute_total Discounted rows;
  profit = absolute_total Profit rows;
}

-- totals with those of one more fact row
abbrev pub plus_row : Totals → LineOrder → Totals
plus_row totals row = record {
  quantity = totals.quantity + measure_size Quantity row;
  extendedprice = totals.extendedprice + measure_size ExtendedPrice row;
  revenue = totals.revenue + measure_size Revenue row;
  supplycost = totals.supplycost + measure_size SupplyCost row;
  discounted = totals.discounted + measure_size Discounted row;
  profit = totals.profit + measure_size Profit row;
}

-- totals with those of more fact rows
abbrev pub plus_rows : Totals → List LineOrder → Totals
plus_rows totals rows = record {
  quantity = totals.quantity + absolute_total Quantity rows;
  extendedprice = totals.extendedprice + absolute_total ExtendedPrice rows;
  revenue = totals.revenue + absolute_total Revenue rows;
  supplycost = totals.supplycost + absolute_total SupplyCost rows;
  discounted = totals.discounted + absolute_total Discounted rows;
  profit = totals.profit + absolute_total Profit rows;
}

-- the least sum that passes the limit
abbrev pub sum_limit : ℕ
sum_limit = 2 ^ 63

-- each total is below a bound
pub record AreBelow (bound : ℕ) (totals : Totals) : Type 0 where
  pub quantity : totals.quantity < bound
  pub extendedprice : totals.extendedprice < bound
  pub revenue : totals.revenue < bound
  pub supplycost : totals.supplycost < bound
  pub discounted : totals.discounted < bound
  pub profit : totals.profit < bound

-- a total passes the limit
abbrev pub total_cause : ℕ → Measure → Option Fault
total_cause total measure = cause_if (nat_le sum_limit total) (SumRange measure)

-- the first measure whose total does
abbrev pub totals_cause : Totals → Option Fault
totals_cause totals = first_cause (
    total_cause totals.quantity Quantity
    ∷ total_cause totals.extendedprice ExtendedPrice
    ∷ total_cause totals.revenue Revenue
    ∷ total_cause totals.supplycost SupplyCost
    ∷ total_cause totals.discounted Discounted
    ∷ total_cause totals.profit Profit ∷ [])
