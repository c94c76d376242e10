use Rattle.std.proofs.Common.{sym, ◌∙◌}
use Rattle.std.proofs.lemmas.Result.{IfErr-weaker, on_ok_weaker}
use Rattle.cube_model.specs.declared.fault.Fault.TheVariants.{Device}
use Rattle.object_store.proofs.Moments.{leaves_then}
use Rattle.object_store.specs.Store as stores
use Rattle.warehouse_objects.specs.Represents.{Represents}
use Rattle.warehouse_objects.proofs.Folded.{err_fault}
use Rattle.warehouse.specs.Migrating.{MigratedOrNot}
use Rattle.warehouse.specs.Session.{disk_of}
use Rattle.warehouse.proofs.SessionLemmas.{read_or_not, refuses_still}
use Rattle.warehouse.proofs.Represented.{content_leaves, session_at, still_at, store_at}
use Rattle.warehouse.proofs.session.Session.move_on.Goals as goal

pub returns-in-Err-clause-leaves : goal.returns-in-Err-clause-leaves
returns-in-Err-clause-leaves g c w at =
    let s = c.args.self.now in
    let old = stores.disk_of g.D.Sectors s.store in
    let new = stores.disk_of g.D.Sectors c.read_migration.new.store in
    read_or_not w old new (content_leaves g.D.Sectors w old new (stores.content_of g.D.Sectors s.store) at.represents
    c.in-Err.ensures.reads.leaves)

pub returns-in-Err-clause-refused : goal.returns-in-Err-clause-refused
returns-in-Err-clause-refused g c other w at =
    let s = c.args.self.now in
    let reads = c.in-Err.ensures.reads in (
      session_at g.D.Sectors w _
          (still_at g.D.Sectors w s.store c.read_migration.new.store (store_at g.D.Sectors w s at)
          (reads.stays (λ is. other (err_fault c.in-Err.fault Device is)))),
      content_leaves g.D.Sectors w (stores.disk_of g.D.Sectors s.store)
          (stores.disk_of g.D.Sectors c.read_migration.new.store) (stores.content_of g.D.Sectors s.store) at.represents
          reads.leaves,
    )

pub returns-clause-leaves : goal.returns-clause-leaves
returns-clause-leaves g c w at =
    let s = c.args.self.now in
    let old = stores.disk_of g.D.Sectors s.store in
    let mid = stores.disk_of g.D.Sectors c.read_migration.new.store in
    let new = disk_of g.D.Sectors c.put_migration.new.self in
    let reads = c.in-Ok.ensures.reads in
    let still : stores.IsStill g.D.Sectors s.store c.read_migration.new.store = reads.stays (λ is. cc) in
    leaves_then (MigratedOrNot w) old mid new
    (read_or_not w old mid
    (content_leaves g.D.Sectors w old mid (stores.content_of g.D.Sectors s.store) at.represents reads.leaves))
    (c.put_migration.ensures.leaves w
    (session_at g.D.Sectors w _ (still_at g.D.Sectors w s.store c.read_migration.new.store
    (store_at g.D.Sectors w s at) still))
    (λ k. c.in-Ok.ensures.ready k w (at.represents (still.word k))
    (sym (c.can_put.ensures.agrees w at (still.word k)).root_is)) c.requires.first)

pub returns-clause-ok : goal.returns-clause-ok
returns-clause-ok g c =
    let s = c.args.self.now in
    let old = stores.disk_of g.D.Sectors s.store in
    let mid = stores.disk_of g.D.Sectors c.read_migration.new.store in
    let new = disk_of g.D.Sectors c.put_migration.new.self in
    let reads = c.in-Ok.ensures.reads in
    let still : stores.IsStill g.D.Sectors s.store c.read_migration.new.store = reads.stays (λ is. cc) in
    on_ok_weaker c.put_migration.result
    (λ then w at. then w (session_at g.D.Sectors w _ (still_at g.D.Sectors w s.store c.read_migration.new.store
    (store_at g.D.Sectors w s at) still))
    (λ k. c.in-Ok.ensures.ready k w (at.represents (still.word k))
    (sym (c.can_put.ensures.agrees w at (still.word k)).root_is)) c.requires.first) c.put_migration.ensures.ok

pub returns-clause-refused : goal.returns-clause-refused
returns-clause-refused g c =
    let s = c.args.self.now in
    let old = stores.disk_of g.D.Sectors s.store in
    let mid = stores.disk_of g.D.Sectors c.read_migration.new.store in
    let new = disk_of g.D.Sectors c.put_migration.new.self in
    let reads = c.in-Ok.ensures.reads in
    let still : stores.IsStill g.D.Sectors s.store c.read_migration.new.store = reads.stays (λ is. cc) in
    IfErr-weaker c.put_migration.result _ _ (λ fault refused other w at.
    let then_is = refused other w (session_at g.D.Sectors w _ (still_at g.D.Sectors w s.store c.read_migration.new.store
    (store_at g.D.Sectors w s at) still)) in (
      then_is.0,
      leaves_then (λ x. Represents x w) old mid new
          (content_leaves g.D.Sectors w old mid (stores.content_of g.D.Sectors s.store) at.represents reads.leaves)
          then_is.1,
    )) c.put_migration.ensures.refused

pub returns-clause-kept : goal.returns-clause-kept
returns-clause-kept g c =
    let s = c.args.self.now in
    let old = stores.disk_of g.D.Sectors s.store in
    let mid = stores.disk_of g.D.Sectors c.read_migration.new.store in
    let new = disk_of g.D.Sectors c.put_migration.new.self in
    let reads = c.in-Ok.ensures.reads in
    let still : stores.IsStill g.D.Sectors s.store c.read_migration.new.store = reads.stays (λ is. cc) in
    IfErr-weaker c.put_migration.result _ _ (λ fault kept other k. kept other k
    ∙ still.content (c.put_migration.ensures.word k)) c.put_migration.ensures.kept

pub returns-clause-causes : goal.returns-clause-causes
returns-clause-causes g c =
    let s = c.args.self.now in
    let old = stores.disk_of g.D.Sectors s.store in
    let mid = stores.disk_of g.D.Sectors c.read_migration.new.store in
    let new = disk_of g.D.Sectors c.put_migration.new.self in
    let reads = c.in-Ok.ensures.reads in
    let still : stores.IsStill g.D.Sectors s.store c.read_migration.new.store = reads.stays (λ is. cc) in
    IfErr-weaker c.put_migration.result _ _ (λ fault causes other w at k.
    refuses_still (stores.content_of g.D.Sectors s.store) (stores.content_of g.D.Sectors c.read_migration.new.store)
    (stores.room_of s.store) (stores.room_of c.read_migration.new.store) w fault
    (still.content (c.put_migration.ensures.word k)) still.room
    (causes other w (session_at g.D.Sectors w _ (still_at g.D.Sectors w s.store c.read_migration.new.store
    (store_at g.D.Sectors w s at) still))
    (λ k. c.in-Ok.ensures.ready k w (at.represents (still.word k))
    (sym (c.can_put.ensures.agrees w at (still.word k)).root_is)) c.requires.first k)) c.put_migration.ensures.causes
