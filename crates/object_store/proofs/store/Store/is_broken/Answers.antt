use Rattle.std.proofs.Common.{◌≡◌, refl}
use Rattle.object_store.specs.Content.{Content}
use Rattle.object_store.specs.Disk.{ShowsSome}
use Rattle.object_store.proofs.Moments.{begins}
use Rattle.object_store.specs.Store.{content_of, disk_of}
use Rattle.object_store.proofs.Frames.{ready_shows}
use Rattle.object_store.proofs.store.Store.is_broken.Goals as goal

pub returns-clause-leaves : goal.returns-clause-leaves
returns-clause-leaves g c fine =
    let store = c.args.self.now in
    begins (ShowsSome (λ (x : Content). x ≡ content_of g.D.Sectors store)) (disk_of g.D.Sectors store)
    (λ w image. g.met.D.Sectors.only_now store.device image w)
    (λ w image is. (
      content_of g.D.Sectors store,
      ready_shows (g.D.Sectors.state store.device) store.superblock store.entries.items
          store.root.items (store.ready fine w) image is,
      refl,
    ))
