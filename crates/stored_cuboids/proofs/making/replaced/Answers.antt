use Rattle.std.proofs.Common.{List, length, refl, ap}
use Rattle.std.proofs.lemmas.Result.{IfOk-weaker}
use Rattle.cuboid_cells.specs.declared.cell.Cell.{Cell}
use Rattle.stored_cuboids.proofs.Made.{next_replaced}
use Rattle.stored_cuboids.proofs.making.replaced.Goals as goal

pub returns-clause-ok : goal.returns-clause-ok
returns-clause-ok c =
    IfOk-weaker c.made.result _ _
    (λ next made. next_replaced c.args.root.now c.args.cuboid c.args.cells.now _ next _ _ _ made c.requires.view
    c.requires.above c.requires.to refl refl
    refl (ap (λ (l : List Cell). length l) c.as_slice.ensures.cells) c.run_id.ensures c.in_ok-drops.ensures.ok refl)
    c.made.ensures.ok
