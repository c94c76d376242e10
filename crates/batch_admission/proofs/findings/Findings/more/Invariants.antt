use Rattle.std.proofs.Common.{◌≡◌, ◌+◌, List, ◌++◌, take}
use Rattle.cube_model.specs.declared.rows.LineOrder.{LineOrder}
use Rattle.batch_admission.specs.Found.{found_in}
use Rattle.cube_model.specs.declared.totals.Totals.{Totals}
use Rattle.batch_admission.proofs.findings.Findings.more.Given as goal

abbrev pub invariant-loop-row : goal.invariant-loop-row
invariant-loop-row l =
    (l.found.row_count ≡ l.fn.self.row_count + l.row-index)
    × ((totals : Totals) (earlier : List LineOrder) → l.fn.self ≡ found_in l.dims totals earlier
    → l.found ≡ found_in l.dims totals (earlier ++ take l.row-index l.rows))
