use Rattle.std.proofs.Common.{refl}
use Rattle.object_store.specs.Commit.{puts_of}
use Rattle.object_store.specs.Ready.{content_from}
use Rattle.object_store.proofs.Frames.{ready_shows}
use Rattle.object_store.proofs.Committing.{lacks_first}
use Rattle.object_store.proofs.store.Store.create.Goals as goal

pub returns-in-Ok-clause-shows : goal.returns-in-Ok-clause-shows
returns-in-Ok-clause-shows g c w image is =
    let staged = c.in-Ok.staged in
    let s = g.D.Sectors.state c.create.new.device in (
      content_from s.reads staged.superblock staged.entries.items staged.root.items,
      ready_shows s staged.superblock staged.entries.items staged.root.items (c.in-Ok.ensures.ready w) image is,
      refl,
    )

pub returns-in-Err-clause-full : goal.returns-in-Err-clause-full
returns-in-Err-clause-full g c is =
    lacks_first (g.D.Sectors.state c.args.device).size (puts_of c.args.puts.now) c.args.root.now
    (c.in-Err.ensures.full is)
