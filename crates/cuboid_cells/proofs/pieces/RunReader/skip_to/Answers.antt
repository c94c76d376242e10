use Rattle.std.proofs.Common.{◌-◌, ap, arith}
use Rattle.cuboid_cells.specs.Pieces.{RunPlace}
use Rattle.cuboid_cells.proofs.PiecesLemmas.{all_passed, none_passed}
use Rattle.cuboid_cells.proofs.pieces.RunReader.skip_to.Goals as goal

pub returns-then-least-self-clause-ok : goal.returns-then-least-self-clause-ok
returns-then-least-self-clause-ok g c = λ keeps left at.
    let run = c.args.self.now in
    none_passed (g.S.Source.texts c.args.source.now run.id) run left c.args.least at
    (omega (arith, c.if-least-self.true, ap (λ (r : RunPlace). r.least) c.self.view_is))

pub returns-clause-ok : goal.returns-clause-ok
returns-clause-ok g c = λ keeps left at.
    let run = c.args.self.now in
    let text = g.S.Source.texts c.args.source.now run.id in
    let parted = c.in_ok-place.ensures.ok keeps left at in
    all_passed text c.move_to.new.self left c.args.least (c.in_ok-place.place - run.done) parted
    (c.move_to.ensures.ok text left at parted.above)
