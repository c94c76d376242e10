use Rattle.std.proofs.Common.{take}
use Rattle.mode_folds.specs.Celling.{AreCellParts}
use Rattle.mode_folds.proofs.celling.divided_cells.Given as goal

abbrev pub invariant-loop-cell : goal.invariant-loop-cell
invariant-loop-cell l = AreCellParts l.count (take l.cell-index l.cells) l.parts.items
