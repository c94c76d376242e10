use Rattle.object_store.specs.Content.{bytes_of}
use Rattle.object_store.specs.Store.{content_of}
use Rattle.stored_cuboids.proofs.ReadingLemmas.{none_is_run}
use Rattle.stored_cuboids.proofs.reading.open_run.Goals as goal

pub returns-clause-refused : goal.returns-clause-refused
returns-clause-refused g c bad k =
    none_is_run (bytes_of (content_of g.D.Sectors c.args.store.now) c.args.id) (c.open.ensures.refused bad k)
