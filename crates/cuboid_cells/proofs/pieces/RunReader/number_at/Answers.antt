use Rattle.std.proofs.Common.{ℕ, ◌+◌, ◌*◌, ap, arith}
use Rattle.cuboid_cells.specs.Pieces.{RunPlace}
use Rattle.cuboid_cells.proofs.PiecesLemmas.{alone_is}
use Rattle.cuboid_cells.proofs.pieces.RunReader.number_at.Goals as goal

pub returns-clause-ok : goal.returns-clause-ok
returns-clause-ok g c =
    let inside = c.self.inside in
    let run : RunPlace = record {
      id = inside.id;
      head = inside.head;
      done = inside.done;
      least = inside.least;
      ahead =
          inside.ahead;
    } in
    let from = ap (λ (r : RunPlace). r.done) c.self.view_is in
    let to = ap (λ (r : RunPlace). r.head.count) c.self.view_is in
    let place : ℕ = c.args.place in
    rw (← c.self.view_is) (λ keeps left none own.
    alone_is (g.S.Source.texts c.args.source.now inside.id) run left place (20 + c.bytes_of_cell.result * place) none _
    c.number_in.result own (omega (arith, c.requires.from, from)) (omega (arith, c.requires.within, to))
    (ap (λ (m : ℕ). 20 + m * place) c.bytes_of_cell.ensures) (c.in_ok-read_part.ensures.bytes keeps)
    c.number_in.ensures)
