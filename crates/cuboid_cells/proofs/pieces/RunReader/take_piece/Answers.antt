use Rattle.std.proofs.Common.{◌∙◌, ℕ, ◌*◌, List, drop, inr, refl, sym, ap, subst}
use Rattle.cuboid_cells.specs.Pieces.{AreLeft, RunPlace}
use Rattle.cuboid_cells.specs.Reading.{ReadsCells}
use Rattle.cuboid_cells.proofs.Continuing.{few_more, more, none}
use Rattle.cuboid_cells.proofs.pieces.RunReader.take_piece.Goals as goal

pub returns-in_default-clause-refused : goal.returns-in_default-clause-refused
returns-in_default-clause-refused c = inr (
  refl,
  λ text left to.
      let run : RunPlace =
      record {
        id = c.self.inside.id;
        head = c.self.inside.head;
        done = c.self.inside.done;
        least = c.self.inside.least;
        ahead = c.self.inside.ahead;
      } in
      let own = subst (λ (r : RunPlace). AreLeft text r left) (sym c.self.view_is) to in
      let n : ℕ = c.min-count.result in
      let piece = c.read_on.new.cells.items in
      let reads = subst (λ (bytes : List ℕ). ReadsCells run.head.view.ship_mode n bytes c.read_on.new.cursor piece)
      (c.new-cursor.ensures ∙ c.rest-rest.ensures) c.in_ok-least.ensures.ok in
      none text run left own n c.read_on.new.cursor piece reads
      (few_more n _ run.head.count run.done c.min-count.ensures c.self.invariant.0)
      (rw c.in_default.is at c.in_ok-least.ensures.none),
)

pub returns-clause-ok : goal.returns-clause-ok
returns-clause-ok c = λ text left to.
    let run : RunPlace =
    record {
      id = c.self.inside.id;
      head = c.self.inside.head;
      done = c.self.inside.done;
      least = c.self.inside.least;
      ahead = c.self.inside.ahead;
    } in
    let own = subst (λ (r : RunPlace). AreLeft text r left) (sym c.self.view_is) to in
    let n : ℕ = c.min-count.result in
    let piece = c.read_on.new.cells.items in
    let reads = subst (λ (bytes : List ℕ). ReadsCells run.head.view.ship_mode n bytes c.read_on.new.cursor piece)
    (c.new-cursor.ensures ∙ c.rest-rest.ensures) c.in_ok-least.ensures.ok in
    let found = rw c.in-Some.is at c.in_ok-least.ensures.some in
    more text run left own n c.read_on.new.cursor piece reads
    (few_more n _ run.head.count run.done c.min-count.ensures c.self.invariant.0) _ refl refl found.1
    (c.skip.ensures ∙ ap (λ (m : ℕ). drop (m * n) run.ahead) c.bytes_of_cell-size.ensures)
