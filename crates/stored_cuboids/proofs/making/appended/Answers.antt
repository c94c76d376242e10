use Rattle.std.proofs.Common.{◌+◌, List, length, refl, ap, arith}
use Rattle.std.proofs.lemmas.Result.{IfOk-weaker}
use Rattle.cuboid_cells.specs.declared.cell.Cell.{Cell}
use Rattle.stored_cuboids.proofs.Made.{next_appended}
use Rattle.stored_cuboids.proofs.making.appended.Goals as goal

pub returns-clause-ok : goal.returns-clause-ok
returns-clause-ok c =
    IfOk-weaker c.made.result _ _
    (λ next made. next_appended c.args.root.now c.args.cuboid c.args.tail.now c.args.span next _ _ _ made
    c.requires.view (omega (arith, c.requires.from, c.requires.some)) c.requires.to refl refl
    refl (ap (λ (l : List Cell). c.args.cuboid.cells + length l) c.as_slice.ensures.cells) c.run_id-id.ensures
    c.new.ensures.items c.requires.from c.requires.runs c.requires.cells)
    c.made.ensures.ok
