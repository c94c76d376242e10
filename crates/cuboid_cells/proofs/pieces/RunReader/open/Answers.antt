use Rattle.std.proofs.Common.{◌∙◌, List, ℕ, sym, subst}
use Rattle.cuboid_cells.specs.Pieces.{IsAtFirst}
use Rattle.cuboid_cells.proofs.Continuing.{opened_text}
use Rattle.cuboid_cells.proofs.pieces.RunReader.open.Goals as goal

pub returns-clause-ok : goal.returns-clause-ok
returns-clause-ok g c = λ keeps.
    let text = g.S.Source.texts c.args.source.now c.args.id in
    let head = c.in-Some-head_of.head in
    let found = c.in-Some-head_of.ensures.some in
    let kept = c.in_ok-refill.ensures.run.stays.word keeps in
    subst (λ (xs : List ℕ). IsAtFirst text (record { id = c.args.id; head = head; done = 0; least = 0; ahead = xs }))
    (sym c.skip.ensures)
    (opened_text text c.refill.new.self found.1.0 c.in-Some.total c.args.id head (c.in-Some.ensures.text kept)
    (c.in_ok-refill.ensures.bytes keeps) found.0 (sym c.rest.ensures ∙ found.1.1))
