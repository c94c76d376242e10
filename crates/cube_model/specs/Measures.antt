use Rattle.std.specs.Prelude.{ℤ, pos, ◌*◌, ◌-ℤ◌}
use Rattle.cube_model.specs.declared.measure.Measure.{Measure}
use Rattle.cube_model.specs.declared.measure.Measure.TheVariants.{Quantity, ExtendedPrice, Revenue, SupplyCost}
use Rattle.cube_model.specs.declared.measure.Measure.TheVariants.{Discounted, Profit}
use Rattle.cube_model.specs.declared.rows.LineOrder.{LineOrder}

-- a measure of a fact row, a whole number
abbrev pub measure_of : Measure → LineOrder → ℤ
measure_of Quantity row = pos row.quantity
measure_of ExtendedPrice row = pos row.extendedprice
measure_of Revenue row = pos row.revenue
measure_of SupplyCost row = pos row.supplycost
measure_of Discounted row = pos (row.extendedprice * row.discount)
measure_of Profit row = pos row.revenue -ℤ pos row.supplycost
