use Rattle.std.proofs.Common.{◌≡◌, false, get_or, take}
use Rattle.std.specs.List.{filter}
use Rattle.mode_folds.proofs.celling.chosen_cells.Given as goal

abbrev pub invariant-loop-cell : goal.invariant-loop-cell
invariant-loop-cell l = l.chosen.items
    ≡ filter (λ cell. get_or l.choice cell.key.ship_mode false) (take l.cell-index l.cells)
