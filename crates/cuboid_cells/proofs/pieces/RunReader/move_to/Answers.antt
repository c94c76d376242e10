use Rattle.std.proofs.Common.{◌≡◌, ◌∙◌, ℕ, ◌+◌, ◌-◌, ◌*◌, List, length, min, refl, sym, ap, subst, arith}
use Rattle.cuboid_cells.specs.Spelled.{cell_bytes}
use Rattle.wire.specs.Parts.{Gives}
use Rattle.cuboid_cells.specs.Pieces.{AreLeft, RunPlace}
use Rattle.cuboid_cells.proofs.PiecesLemmas.{gives_cut, passed_to}
use Rattle.cuboid_cells.proofs.pieces.RunReader.move_to.Goals as goal

pub returns-clause-ok : goal.returns-clause-ok
returns-clause-ok c = λ text left at.
    let inside = c.self.inside in
    let run : RunPlace = record {
      id = inside.id;
      head = inside.head;
      done = inside.done;
      least = inside.least;
      ahead =
          inside.ahead;
    } in
    let next : RunPlace = record {
      id = inside.id;
      head = inside.head;
      done = c.args.place;
      least =
          c.args.least;
      ahead = c.skip.new.self;
    } in
    let k : ℕ = c.args.place - inside.done in
    let same : c.args.self.now.done ≡ inside.done = sym (ap (λ (r : RunPlace). r.done) c.self.view_is) in
    let count : c.args.self.now.head.count ≡ inside.head.count =
    sym (ap (λ (r : RunPlace). r.head.count) c.self.view_is) in
    let own = subst (λ (r : RunPlace). AreLeft text r left) (sym c.self.view_is) at in
    let bytes = ap (λ (m : ℕ). min (m * k) (length inside.ahead)) c.bytes_of_cell.ensures in
    let ahead = gives_cut text run left own k c.min-bytes.result c.skip.new.self
    (c.min-bytes.ensures ∙ ap (λ (xs : List ℕ). min (c.bytes_of_cell.result * k) (length xs)) c.rest.ensures
    ∙ bytes) c.skip.ensures in
    rw (← c.self.view_is) (λ above.
    passed_to text run next left k own (omega (arith, c.requires.from, c.requires.to, count, same, own.many, own.done))
    refl (omega (arith, c.requires.from, same)) above
    (subst (λ (n : ℕ). Gives text n c.skip.new.self)
    (ap (λ (m : ℕ). 20 + cell_bytes inside.head.view.ship_mode * m) (omega (arith, c.requires.from, same))) ahead))
