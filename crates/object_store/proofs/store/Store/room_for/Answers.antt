use Rattle.std.proofs.Common.{arith}
use Rattle.extents.specs.Extents.{IsInRange}
use Rattle.object_store.specs.Places.{extent_of}
use Rattle.object_store.proofs.Contents.{found_range}
use Rattle.object_store.proofs.store.Store.room_for.Goals as goal

pub overflow_mul-result : goal.overflow_mul-result
overflow_mul-result g c =
    let store = c.args.self.now in
    let size = (g.D.Sectors.state store.device).size in
    let r : IsInRange size (extent_of c.args.entry.first c.args.entry.bytes) =
    found_range size c.args.id store.superblock store.entries.items c.args.entry c.requires.found
    store.kept.laid_out in
    let ends = r.ends in
    let sized = store.kept.sized in
    let few = store.kept.proper in
    omega (arith, ends, sized, few, c.div_ceil.ensures)
