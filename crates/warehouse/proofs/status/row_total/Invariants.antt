use Rattle.std.proofs.Common.{◌≡◌, ◌*◌, ◌^◌, ◌≤◌, take}
use Rattle.std.specs.List.{sum_by}
use Rattle.warehouse.proofs.status.row_total.Given as goal

abbrev pub invariant-loop-rows : goal.invariant-loop-rows
invariant-loop-rows l = (l.total ≡ sum_by (λ rows. rows) (take l.rows-index l.batches))
    × (l.total ≤ 2 ^ 32 * l.rows-index)
