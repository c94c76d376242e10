-- That the numbers of rows can be added up.
use Rattle.std.proofs.Common.{◌<◌, ◌^◌, List, arith}
use Rattle.std.specs.Prelude.{nat_abs}
use Rattle.std.specs.List.{sum_by}
use Rattle.cube_model.specs.declared.measure.Agg.{Agg}
use Rattle.cube_model.specs.declared.measure.Agg.TheVariants.{Count, Sum, Min, Max, Avg}
use Rattle.cube_model.specs.declared.rows.LineOrder.{LineOrder}
use Rattle.cube_model.specs.Admission.{AreInRange}
use Rattle.group_tallies.specs.Tallies.{aggregated}
use Rattle.group_tallies.proofs.Sums.{sum_by-zero}

pub range_of_agg : (rows : List LineOrder) → AreInRange rows → (agg : Agg)
    → sum_by (λ row. nat_abs (aggregated agg row)) rows < 2 ^ 63
range_of_agg rows fits Count = omega (arith, sum_by-zero rows)
range_of_agg rows fits (Sum measure) = fits measure
range_of_agg rows fits (Min measure) = fits measure
range_of_agg rows fits (Max measure) = fits measure
range_of_agg rows fits (Avg measure) = fits measure
