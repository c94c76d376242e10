use Rattle.std.proofs.Common.{◌≡◌, ℕ, ◌-◌, List, [], None}
use Rattle.std.specs.Prelude.{IfSome}
use Rattle.cube_model.specs.declared.rows.LineOrder.{LineOrder}
use Rattle.ssb_eval.specs.BatchLoop.{AreTaken, LeavesFacts}
use Rattle.cube_model.specs.Admission.{all_rows}
use Rattle.cube_model.specs.ShipModes.{modes_in}
use Rattle.dimension_tables.specs.Tables.{IsUnread}
use Rattle.ssb_eval.specs.ShipModes.{HasMet}
use Rattle.ssb_eval.specs.Tables.{IsInNoRow}
use Rattle.ssb_eval.proofs.facts.fold_lines.Given as goal

abbrev pub invariant-loop-modes : goal.invariant-loop-modes
invariant-loop-modes g l =
    (batches : List (List LineOrder))
    × AreTaken l.dims l.fn.fold.asked l.admission l.fold batches
    × (l.lines.fault ≡ None)
    × ((text : List ℕ) → IsUnread l.fn.lines text → LeavesFacts l.dims text batches l.lines.number l.lines.left)
    × (IfSome l.fn.unknown (IsInNoRow l.dims) → IfSome l.unknown (IsInNoRow l.dims))
    × HasMet l.modes (modes_in (all_rows batches)) []

abbrev pub decreases-loop-modes : goal.decreases-loop-modes
decreases-loop-modes g l = 4097 - l.admission.count
