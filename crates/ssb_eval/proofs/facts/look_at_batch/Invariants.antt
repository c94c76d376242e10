use Rattle.std.proofs.Common.{◌*◌, List, []}
use Rattle.std.specs.Prelude.{IfSome}
use Rattle.batch_loader.specs.Tables.{lineorder_row}
use Rattle.batch_loader.proofs.TakingRows.{IsTaking}
use Rattle.cube_model.specs.declared.rows.LineOrder.{LineOrder}
use Rattle.cube_model.specs.Admission.{all_rows}
use Rattle.cube_model.specs.Limits.{most_batch_rows}
use Rattle.ssb_eval.specs.BatchLoop.{AreTaken, IsBegun}
use Rattle.cube_model.specs.ShipModes.{modes_in}
use Rattle.ssb_eval.specs.ShipModes.{HasMet, HasMetRows}
use Rattle.ssb_eval.specs.Tables.{IsInNoRow}
use Rattle.ssb_eval.proofs.facts.look_at_batch.Given as goal

abbrev pub invariant-loop : goal.invariant-loop
invariant-loop g l =
    (earlier : List LineOrder)
    × IsTaking lineorder_row most_batch_rows l.fn.lines l.lines earlier (l.counter * 4096)
    × ((batches : List (List LineOrder)) → AreTaken l.dims l.fn.fold.asked l.admission l.fn.fold batches
    → IsBegun l.dims l.fn.fold.asked (all_rows batches) earlier l.found l.fold)
    × ((batches : List (List LineOrder)) → AreTaken l.dims l.fn.fold.asked l.admission l.fn.fold batches
    → HasMet l.fn.modes (modes_in (all_rows batches)) [] → HasMetRows l.found l.modes (all_rows batches) earlier)
    × (IfSome l.fn.unknown (IsInNoRow l.dims) → IfSome l.unknown (IsInNoRow l.dims))
