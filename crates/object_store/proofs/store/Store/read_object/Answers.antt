use Rattle.std.proofs.Common.{◌∙◌, ◌≡◌, ◌++◌, List, ℕ, Some, take, sym, ap, arith}
use Rattle.extents.specs.Extents.{IsInRange}
use Rattle.superblock.specs.Superblock.{sectors_of}
use Rattle.object_store.specs.Places.{extent_of, sectors_bytes}
use Rattle.object_store.proofs.Contents.{found_range, bytes_some, read_leaves}
use Rattle.object_store.proofs.store.Store.read_object.Goals as goal

pub overflow_cast-sectors : goal.overflow_cast-sectors
overflow_cast-sectors g c =
    let store = c.args.self.now in
    let size = (g.D.Sectors.state store.device).size in
    let r : IsInRange size (extent_of c.args.entry.first c.args.entry.bytes) =
    found_range size c.args.id store.superblock store.entries.items c.args.entry c.requires.found
    store.kept.laid_out in
    let ends = r.ends in
    let sized = store.kept.sized in
    let few = store.kept.proper in
    omega (arith, ends, sized, few, c.div_ceil-sectors.ensures)

pub push_sectors-requires-clause-in_range : goal.push_sectors-requires-clause-in_range
push_sectors-requires-clause-in_range g c =
    let store = c.args.self.now in
    let size = (g.D.Sectors.state store.device).size in
    let r : IsInRange size (extent_of c.args.entry.first c.args.entry.bytes) =
    found_range size c.args.id store.superblock store.entries.items c.args.entry c.requires.found
    store.kept.laid_out in
    let ends = r.ends in
    omega (arith, ends, c.div_ceil-sectors.ensures)

pub returns-in-Ok-clause-bytes : goal.returns-in-Ok-clause-bytes
returns-in-Ok-clause-bytes g c w =
    let store = c.args.self.now in
    let reads = (g.D.Sectors.state store.device).reads in
    let e = c.args.entry in
    let many : c.div_ceil-sectors.result ≡ sectors_of e.bytes = omega (arith, c.div_ceil-sectors.ensures) in
    let run : c.push_sectors.new.to.items ≡ sectors_bytes reads e.first (sectors_of e.bytes) =
    c.in-Ok.ensures.bytes w
    ∙ ap (λ (l : List ℕ). l ++ sectors_bytes reads e.first c.div_ceil-sectors.result) c.requires.none
    ∙ ap (λ (n : ℕ). sectors_bytes reads e.first n) many in
    ap (λ (l : List ℕ). Some l) (c.truncate.ensures.items ∙ ap (λ (l : List ℕ). take e.bytes l) run)
    ∙ sym (bytes_some reads store.entries.items c.args.id e c.requires.found)

pub returns-in-Ok-clause-leaves : goal.returns-in-Ok-clause-leaves
returns-in-Ok-clause-leaves g c =
    let store = c.args.self.now in
    read_leaves g.D.Sectors store.device c.push_sectors.new.device c.push_sectors.ensures.reads store.superblock
    store.entries.items store.root.items (λ w. store.ready c.requires.fine w)

pub returns-in-Err-clause-leaves : goal.returns-in-Err-clause-leaves
returns-in-Err-clause-leaves g c =
    let store = c.args.self.now in
    read_leaves g.D.Sectors store.device c.push_sectors.new.device c.push_sectors.ensures.reads store.superblock
    store.entries.items store.root.items (λ w. store.ready c.requires.fine w)
