use Rattle.std.proofs.Common.{◌∙◌, ℕ, ◌-◌, ◌*◌, List, drop, ap, arith, length}
use Rattle.std.proofs.lemmas.List.{length-drop, take_all}
use Rattle.cuboid_cells.specs.Pieces.{RunPlace}
use Rattle.cuboid_cells.proofs.PiecesLemmas.{ahead_is}
use Rattle.cuboid_cells.proofs.pieces.RunReader.number_ahead.Goals as goal

pub returns : goal.returns
returns c =
    let inside = c.self.inside in
    let run : RunPlace = record {
      id = inside.id;
      head = inside.head;
      done = inside.done;
      least = inside.least;
      ahead =
          inside.ahead;
    } in
    let k : ℕ = c.args.place - inside.done in
    let from = ap (λ (r : RunPlace). r.done) c.self.view_is in
    let to = ap (λ (r : RunPlace). r.head.count) c.self.view_is in
    let rest : List ℕ = c.rest-rest.result.now in
    let at : ℕ = c.bytes_of_cell.result * k in
    rw (← c.self.view_is) (λ text left none own.
    ahead_is text run left c.args.place at none _ c.number_in.result own (omega (arith, c.requires.from, from))
    (omega (arith, c.requires.within, to))
    (ap (λ (m : ℕ). m * k) c.bytes_of_cell.ensures) (omega (arith, c.if-rest-at.false, ap length c.rest-rest.ensures))
    (take_all (length rest - at) (drop at rest) (omega (arith, length-drop at rest)) ∙ ap (drop at) c.rest-rest.ensures)
    c.number_in.ensures)
