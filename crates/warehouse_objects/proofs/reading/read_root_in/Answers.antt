use Rattle.object_store.specs.Store.{content_of}
use Rattle.warehouse_objects.proofs.ReadingLemmas.{root_found, root_refused}
use Rattle.warehouse_objects.proofs.reading.read_root_in.Goals as goal

pub returns-clause-found : goal.returns-clause-found
returns-clause-found g c =
    root_found (content_of g.D.Sectors c.args.store.now) c.args.layout c.requires.layout c.root.result.now
    c.root.ensures c.decode.result c.decode.ensures.ok

pub returns-clause-refused : goal.returns-clause-refused
returns-clause-refused g c =
    root_refused (content_of g.D.Sectors c.args.store.now) c.args.layout c.requires.layout c.root.result.now
    c.root.ensures c.decode.result c.decode.ensures.refused
