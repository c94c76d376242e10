use Rattle.std.proofs.Common.{sym, subst, take}
use Rattle.std.proofs.lemmas.List.{take_more}
use Rattle.mode_folds.proofs.OneCellMore.{no_cells}
use Rattle.mode_folds.specs.Celling.{AreCellParts}
use Rattle.mode_folds.proofs.celling.divided_cells.Goals as goal

pub loop-cell-init : goal.loop-cell-init
loop-cell-init c = no_cells c.args.count c.in_ok-parts.parts.items c.in_ok-parts.ensures

pub loop-cell-preserved : goal.loop-cell-preserved
loop-cell-preserved c =
    subst (λ cells. AreCellParts c.args.count cells c.put_cell.new.parts.items)
    (sym (take_more c.args.cells.now c.loop-cell.cell-index _ c.loop-cell-test.true))
    (c.in_ok-put_cell.ensures (take c.loop-cell.cell-index c.args.cells.now) c.args.count c.loop-cell.invariant)
