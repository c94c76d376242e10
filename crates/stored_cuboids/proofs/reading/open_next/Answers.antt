use Rattle.std.proofs.Common.{sym, subst}
use Rattle.cuboid_cells.specs.declared.head.RunHead.{RunHead}
use Rattle.object_store.specs.Store.{content_of}
use Rattle.stored_cuboids.specs.Steps.{GoesOn}
use Rattle.stored_cuboids.proofs.CountedRuns.{head_goes_on}
use Rattle.stored_cuboids.proofs.reading.open_next.Goals as goal

pub returns-in-None-clause-refused : goal.returns-in-None-clause-refused
returns-in-None-clause-refused g c = λ is k others next goes.
    let content = content_of g.D.Sectors c.args.store.now in
    c.in-None.ensures.none next (subst (λ (head : RunHead). GoesOn c.args.view c.args.at head next) (sym c.head.ensures)
    (head_goes_on content c.args.id c.args.view c.args.at c.in_ok-reader.reader (c.in_ok-reader.ensures.ok k) others
    next goes))
