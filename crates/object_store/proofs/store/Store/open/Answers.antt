use Rattle.std.proofs.Common.{refl, arith}
use Rattle.object_store.specs.Ready.{content_from}
use Rattle.object_store.proofs.Frames.{ready_shows}
use Rattle.object_store.proofs.store.Store.open.Goals as goal

pub returns-then-count-lt-LEAST_SECTORS-clause-nothing : goal.returns-then-count-lt-LEAST_SECTORS-clause-nothing
returns-then-count-lt-LEAST_SECTORS-clause-nothing g c layout w = record {
  image = (g.D.Sectors.state c.args.device).reads;
  is = λ i. g.met.D.Sectors.read_may_stay c.args.device i w;
  none = λ x shows. omega (
    arith,
    (shows.2).spells.sized,
    (shows.2).in_slot.proper.least_sectors,
    c.count.ensures,
    c.if-count-lt-LEAST_SECTORS.true,
  );
}

pub returns-in-Ok-clause-shows : goal.returns-in-Ok-clause-shows
returns-in-Ok-clause-shows g c w image is =
    let found = c.in-Ok.found in
    let s = g.D.Sectors.state c.find.new.device in (
      content_from s.reads found.superblock found.catalogue.entries.items found.catalogue.root.items,
      ready_shows s found.superblock found.catalogue.entries.items found.catalogue.root.items (c.in-Ok.ensures.ready w)
          image is,
      refl,
    )

pub returns-in-Err-clause-nothing : goal.returns-in-Err-clause-nothing
returns-in-Err-clause-nothing g c layout w = record {
  image = (g.D.Sectors.state c.args.device).reads;
  is = λ i. g.met.D.Sectors.read_may_stay c.args.device i (c.find.ensures.reads.word w);
  none = c.in-Err.ensures.nothing layout w;
}
