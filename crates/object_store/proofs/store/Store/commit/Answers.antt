use Rattle.std.proofs.Common.{inl, refl}
use Rattle.std.proofs.lemmas.Result.{on_ok_weaker}
use Rattle.object_store.specs.Commit.{committed, puts_of}
use Rattle.object_store.specs.Disk.{ShowsSome}
use Rattle.object_store.proofs.Frames.{always_shows, ready_shows}
use Rattle.object_store.proofs.Moments.{begins}
use Rattle.object_store.specs.Store.{IsOneOf, content_of, disk_of}
use Rattle.object_store.proofs.store.Store.commit.Goals as goal

pub put_staged-requires-clause-is_staged : goal.put_staged-requires-clause-is_staged
put_staged-requires-clause-is_staged g c = record {
  drops = c.args.drops.now;
  root = c.args.root.now;
  layout = c.args.layout;
  is_staged = c.in_ok-staged.ensures.ok;
}

pub returns-clause-leaves : goal.returns-clause-leaves
returns-clause-leaves g c = λ fine. c.put_staged.ensures.leaves c.args.drops.now c.args.root.now c.args.layout
    c.in_ok-staged.ensures.ok

pub returns-clause-ok : goal.returns-clause-ok
returns-clause-ok g c =
    on_ok_weaker c.put_staged.result
    (λ made w. made c.args.drops.now c.args.root.now c.args.layout c.in_ok-staged.ensures.ok w) c.put_staged.ensures.ok

pub returns-clause-fine : goal.returns-clause-fine
returns-clause-fine g c =
    on_ok_weaker c.put_staged.result (λ fine. (c.in_ok-staged.ensures.fine, fine)) c.put_staged.ensures.fine

pub returns-clause-shows : goal.returns-clause-shows
returns-clause-shows g c =
    on_ok_weaker c.put_staged.result (λ fine. always_shows g.D.Sectors c.put_staged.new.self fine)
    c.put_staged.ensures.fine

pub returns-in_err-staged-clause-leaves : goal.returns-in_err-staged-clause-leaves
returns-in_err-staged-clause-leaves g c = λ fine.
    let store = c.args.self.now in
    let content = content_of g.D.Sectors store in
    begins (ShowsSome
    (IsOneOf content (committed (puts_of c.args.puts.now) c.args.drops.now c.args.root.now c.args.layout content)))
    (disk_of g.D.Sectors store) (λ w image. g.met.D.Sectors.only_now store.device image w)
    (λ w image is. (
      content,
      ready_shows (g.D.Sectors.state store.device) store.superblock store.entries.items store.root.items
          (store.ready fine w) image is,
      inl refl,
    ))
