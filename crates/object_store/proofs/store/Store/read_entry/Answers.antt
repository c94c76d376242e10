use Rattle.std.proofs.Common.{length, refl, arith}
use Rattle.extents.specs.Extents.{IsInRange}
use Rattle.object_store.specs.Places.{extent_of}
use Rattle.object_store.proofs.Contents.{found_range, gives_part, content_read, read_leaves}
use Rattle.object_store.proofs.store.Store.read_entry.Goals as goal

pub read_range-requires-clause-in_range : goal.read_range-requires-clause-in_range
read_range-requires-clause-in_range g c =
    let store = c.args.self.now in
    let size = (g.D.Sectors.state store.device).size in
    let r : IsInRange size (extent_of c.args.entry.first c.args.entry.bytes) =
    found_range size c.args.id store.superblock store.entries.items c.args.entry c.requires.found
    store.kept.laid_out in
    let ends = r.ends in
    let within = c.requires.within in
    omega (arith, ends, within)

pub returns-in-Ok-clause-bytes : goal.returns-in-Ok-clause-bytes
returns-in-Ok-clause-bytes g c w =
    let store = c.args.self.now in
    gives_part (g.D.Sectors.state store.device).reads store.entries.items c.args.id c.args.entry c.args.at
    (length c.args.to.now) c.read_range.new.to c.requires.found c.read_range.auto.to
    (c.in-Ok.ensures.bytes w c.args.entry.bytes c.requires.within)

pub returns-in-Ok-clause-leaves : goal.returns-in-Ok-clause-leaves
returns-in-Ok-clause-leaves g c =
    let store = c.args.self.now in
    read_leaves g.D.Sectors store.device c.read_range.new.device c.read_range.ensures.reads store.superblock
    store.entries.items store.root.items (λ w. store.ready c.requires.fine w)

pub returns-in-Err-clause-leaves : goal.returns-in-Err-clause-leaves
returns-in-Err-clause-leaves g c =
    let store = c.args.self.now in
    read_leaves g.D.Sectors store.device c.read_range.new.device c.read_range.ensures.reads store.superblock
    store.entries.items store.root.items (λ w. store.ready c.requires.fine w)

pub returns-in-Ok-clause-stays : goal.returns-in-Ok-clause-stays
returns-in-Ok-clause-stays g c =
    let store = c.args.self.now in record {
      word = c.read_range.ensures.reads.word;
      content = content_read g.D.Sectors store.device c.read_range.new.device c.read_range.ensures.reads
          store.superblock store.entries.items store.root.items;
      room = refl;
      sizes = λ id. refl;
      failed = refl;
      failures = c.in-Ok.ensures.failures;
    }

pub returns-in-Ok-clause-kept : goal.returns-in-Ok-clause-kept
returns-in-Ok-clause-kept g c =
    let store = c.args.self.now in record {
      word = c.read_range.ensures.reads.word;
      content = content_read g.D.Sectors store.device c.read_range.new.device c.read_range.ensures.reads
          store.superblock store.entries.items store.root.items;
      sizes = λ id. refl;
    }

pub returns-in-Err-clause-kept : goal.returns-in-Err-clause-kept
returns-in-Err-clause-kept g c =
    let store = c.args.self.now in record {
      word = c.read_range.ensures.reads.word;
      content = content_read g.D.Sectors store.device c.read_range.new.device c.read_range.ensures.reads
          store.superblock store.entries.items store.root.items;
      sizes = λ id. refl;
    }
