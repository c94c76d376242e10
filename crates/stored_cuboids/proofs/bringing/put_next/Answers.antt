use Rattle.std.proofs.Common.{◌⊎◌, sym, subst, arith, inl}
use Rattle.object_store.specs.Content.{Content}
use Rattle.object_store.specs.Disk.{Leaves}
use Rattle.object_store.specs.Store as stores
use Rattle.warehouse_objects.specs.Represents.{Represents}
use Rattle.warehouse_objects.specs.Warehouse.{Warehouse}
use Rattle.warehouse_objects.proofs.CallerLemmas.{few_objects}
use Rattle.stored_cuboids.specs.Keeping.{StoreAt}
use Rattle.stored_cuboids.proofs.LaterReads.{leaves_if, leaves_first}
use Rattle.stored_cuboids.proofs.StoreCalls.{no_call_yet}
use Rattle.stored_cuboids.proofs.bringing.put_next.Goals as goal

pub returns-then-objects-ge-MOST_OBJECTS-clause-readable : goal.returns-then-objects-ge-MOST_OBJECTS-clause-readable
returns-then-objects-ge-MOST_OBJECTS-clause-readable g c is k w at =
    omega (
      arith,
      few_objects (stores.content_of g.D.Sectors c.args.store.now) w (at.represents k),
      c.objects.ensures,
      c.if-objects-ge-MOST_OBJECTS.true,
    )

pub returns-in-Ok-clause-leaves : goal.returns-in-Ok-clause-leaves
returns-in-Ok-clause-leaves g c w v at by =
    let old = stores.disk_of g.D.Sectors c.args.store.now in
    let new = stores.disk_of g.D.Sectors c.keep_one.new.store in
    leaves_if (λ (x : Content). Represents x w ⊎ Represents x v) old new c.keep_one.ensures.calls.word (λ k.
    let b = by k in
    subst (λ (u : Warehouse). Leaves old new (λ x. Represents x w ⊎ Represents x u)) (sym b.is)
    (c.keep_one.ensures.leaves w c.args.root.now b.old b.new b.run at b.brings))

pub returns-in-Err-clause-leaves : goal.returns-in-Err-clause-leaves
returns-in-Err-clause-leaves g c w v at by =
    let old = stores.disk_of g.D.Sectors c.args.store.now in
    let new = stores.disk_of g.D.Sectors c.keep_one.new.store in
    leaves_if (λ (x : Content). Represents x w ⊎ Represents x v) old new c.keep_one.ensures.calls.word (λ k.
    let b = by k in
    subst (λ (u : Warehouse). Leaves old new (λ x. Represents x w ⊎ Represents x u)) (sym b.is)
    (c.keep_one.ensures.leaves w c.args.root.now b.old b.new b.run at b.brings))

pub returns-in-Ok-clause-ok : goal.returns-in-Ok-clause-ok
returns-in-Ok-clause-ok g c w v at by =
    let there : g.D.Sectors.keeps_word (stores.device_of c.keep_one.new.store)
    → StoreAt g.D.Sectors c.keep_one.new.store c.args.next.root v = λ k.
    let b = by (c.keep_one.ensures.calls.word k) in
    subst (λ (u : Warehouse). StoreAt g.D.Sectors c.keep_one.new.store c.args.next.root u) (sym b.is)
    (c.in-Ok.ensures.ok w c.args.root.now b.old b.new b.run at b.brings) in record {
      fine = c.in-Ok.ensures.calls.fine (λ is. cc);
      represents = λ k. (there k).represents k;
      root_is = λ k. (there k).root_is k;
    }

pub returns-in-Ok-clause-loaded : goal.returns-in-Ok-clause-loaded
returns-in-Ok-clause-loaded g c k rows modes is same = c.in-Ok.ensures.loaded k rows modes c.args.root.now is same

pub returns-then-objects-ge-MOST_OBJECTS-clause-leaves :
    goal.returns-then-objects-ge-MOST_OBJECTS-clause-leaves
returns-then-objects-ge-MOST_OBJECTS-clause-leaves g c w v at brings =
    leaves_first g.D.Sectors g.met.D.Sectors.only_now c.args.store.now w c.args.root.now at _
    (λ content represents. inl represents)

pub returns-then-objects-ge-MOST_OBJECTS-clause-calls : goal.returns-then-objects-ge-MOST_OBJECTS-clause-calls
returns-then-objects-ge-MOST_OBJECTS-clause-calls g c =
    no_call_yet g.D.Sectors _ c.args.store.now c.requires.fine (λ is. cc) (λ is. cc)
