use Rattle.std.proofs.Common.{ℕ, ◌+◌, ◌*◌, sym, ap, subst}
use Rattle.wire.specs.Parts.{Gives}
use Rattle.cuboid_cells.specs.Pieces.{AreLeft, RunPlace}
use Rattle.cuboid_cells.proofs.Continuing.{on_ok, with_gives}
use Rattle.cuboid_cells.proofs.pieces.RunReader.read_ahead.Goals as goal

pub returns-clause-ok : goal.returns-clause-ok
returns-clause-ok g c =
    let run : RunPlace =
    record {
      id = c.self.inside.id;
      head = c.self.inside.head;
      done = c.self.inside.done;
      least = c.self.inside.least;
      ahead = c.self.inside.ahead;
    } in
    let source = c.args.source.now in
    let place : ℕ = 20 + c.bytes_of_cell-size.result * run.done in
    on_ok c.refill.result (λ gives keeps left to.
    let text = g.S.Source.texts source c.args.self.now.id in
    let own = subst (λ (r : RunPlace). AreLeft text r left) (sym c.self.view_is) to in
    let given =
    subst (λ (n : ℕ). Gives (g.S.Source.texts source n) place c.refill.new.self)
    (ap (λ (r : RunPlace). r.id) c.self.view_is) (gives keeps) in
    with_gives text run left own place c.refill.new.self
    (ap (λ (m : ℕ). 20 + m * run.done) c.bytes_of_cell-size.ensures) given) c.refill.ensures.bytes
