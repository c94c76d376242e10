use Rattle.object_store.specs.Commit.{puts_of}
use Rattle.object_store.specs.Disk.{disk}
use Rattle.object_store.proofs.Committing.{commit_leaves, kept_after, ready_after, content_after}
use Rattle.object_store.proofs.store.Store.put_staged.Goals as goal

pub invariant_of-self : goal.invariant_of-self
invariant_of-self g c =
    let store = c.args.self.now in
    let some = c.requires.is_staged in
    let s0 = g.D.Sectors.state store.device in
    let s1 = g.D.Sectors.state c.publish.new.device in record {
      kept = kept_after s0 store.superblock store.entries.items store.root.items store.kept (puts_of c.args.puts.now)
          some.drops some.root some.layout c.args.staged some.is_staged s1.size c.publish.ensures.size;
      ready = λ fine w. ready_after s0 store.superblock store.entries.items store.root.items store.kept
          (puts_of c.args.puts.now) some.drops some.root some.layout c.args.staged some.is_staged
          (store.ready fine (c.publish.ensures.word w))
          s1 c.publish.ensures.size (c.in-Ok.ensures.settled w) (c.in-Ok.ensures.written w);
    }

pub returns-in-Ok-clause-leaves : goal.returns-in-Ok-clause-leaves
returns-in-Ok-clause-leaves g c drops root layout is_staged =
    let store = c.args.self.now in
    commit_leaves (disk g.D.Sectors store.device) (disk g.D.Sectors c.publish.new.device) store.superblock
    store.entries.items store.root.items store.kept (puts_of c.args.puts.now) drops root layout c.args.staged is_staged
    c.publish.ensures.word c.publish.ensures.size (λ w. store.ready c.requires.fine w) c.publish.ensures.moments

pub returns-in-Err-clause-leaves : goal.returns-in-Err-clause-leaves
returns-in-Err-clause-leaves g c drops root layout is_staged =
    let store = c.args.self.now in
    commit_leaves (disk g.D.Sectors store.device) (disk g.D.Sectors c.publish.new.device) store.superblock
    store.entries.items store.root.items store.kept (puts_of c.args.puts.now) drops root layout c.args.staged is_staged
    c.publish.ensures.word c.publish.ensures.size (λ w. store.ready c.requires.fine w) c.publish.ensures.moments

pub returns-in-Ok-clause-ok : goal.returns-in-Ok-clause-ok
returns-in-Ok-clause-ok g c drops root layout is_staged w =
    let store = c.args.self.now in
    let s0 = g.D.Sectors.state store.device in
    content_after s0 store.superblock store.entries.items store.root.items store.kept (puts_of c.args.puts.now) drops
    root layout c.args.staged is_staged (store.ready c.requires.fine (c.publish.ensures.word w))
    (g.D.Sectors.state c.publish.new.device) c.publish.ensures.size (c.in-Ok.ensures.settled w)
    (c.in-Ok.ensures.written w)
