use Rattle.std.proofs.Common.{[], refl, sym, ap, ◌∙◌, subst, inl}
use Rattle.object_store.specs.Content.{Content}
use Rattle.object_store.specs.Store as stores
use Rattle.warehouse_root.specs.Root.{PlainRoot}
use Rattle.warehouse_objects.specs.Warehouse.{aimed}
use Rattle.stored_cuboids.specs.Keeping.{StoreAt}
use Rattle.stored_cuboids.proofs.Replaced.{before_at, before_leaves, generation_replaced, makes_target, replaced_at}
use Rattle.stored_cuboids.proofs.Replaced.{replaced_causes, replaced_leaves}
use Rattle.object_store.proofs.CallerLemmas.{leaves_now}
use Rattle.stored_cuboids.proofs.LaterReads.{leaves_first, loaded_or_before}
use Rattle.stored_cuboids.proofs.StoreCalls.{out_of_memory}
use Rattle.stored_cuboids.proofs.aiming.aim.Goals as goal

pub returns-in-Ok-replace_root-clause-leaves : goal.returns-in-Ok-replace_root-clause-leaves
returns-in-Ok-replace_root-clause-leaves g c w at =
    replaced_leaves g.D.Sectors c.args.store.now c.replace_root.new.store w (aimed w) c.args.root.now c.in-Ok.next [] at
    (makes_target (stores.content_of g.D.Sectors c.args.store.now) c.args.root.now c.in-Ok.next w c.batches.result.now
    c.in-Ok.ensures.ok c.batches.ensures.value)
    c.replace_root.ensures.leaves

pub returns-in-Ok-replace_root-clause-ok : goal.returns-in-Ok-replace_root-clause-ok
returns-in-Ok-replace_root-clause-ok g c w at =
    subst (λ (r : PlainRoot). StoreAt g.D.Sectors c.replace_root.new.store r (aimed w))
    (sym c.in-Ok-replace_root.ensures.root)
    (replaced_at g.D.Sectors c.args.store.now c.replace_root.new.store w (aimed w) c.args.root.now c.in-Ok.next [] at
    (makes_target (stores.content_of g.D.Sectors c.args.store.now) c.args.root.now c.in-Ok.next w c.batches.result.now
    c.in-Ok.ensures.ok c.batches.ensures.value)
    (c.in-Ok-replace_root.ensures.calls.fine (λ is. cc)) c.replace_root.ensures.calls.word
    c.in-Ok-replace_root.ensures.ok)

pub returns-in-Ok-replace_root-clause-once : goal.returns-in-Ok-replace_root-clause-once
returns-in-Ok-replace_root-clause-once g c k =
    ap (λ (x : Content). x.generation) (c.in-Ok-replace_root.ensures.ok k)
    ∙ generation_replaced (stores.content_of g.D.Sectors c.args.store.now) [] c.in-Ok.next

pub returns-in-Err-replace_root-clause-leaves : goal.returns-in-Err-replace_root-clause-leaves
returns-in-Err-replace_root-clause-leaves g c w at =
    replaced_leaves g.D.Sectors c.args.store.now c.replace_root.new.store w (aimed w) c.args.root.now c.in-Ok.next [] at
    (makes_target (stores.content_of g.D.Sectors c.args.store.now) c.args.root.now c.in-Ok.next w c.batches.result.now
    c.in-Ok.ensures.ok c.batches.ensures.value)
    c.replace_root.ensures.leaves

pub returns-in-Err-replace_root-clause-refused : goal.returns-in-Err-replace_root-clause-refused
returns-in-Err-replace_root-clause-refused g c cause w at =
    let same = c.in-Err-replace_root.ensures.refused cause in (
      subst (λ (r : PlainRoot). StoreAt g.D.Sectors c.replace_root.new.store r w)
          (sym c.in-Err-replace_root.ensures.kept)
          (before_at g.D.Sectors c.args.store.now c.replace_root.new.store w c.args.root.now at same),
      before_leaves g.D.Sectors c.args.store.now c.replace_root.new.store w c.args.root.now at same
          (leaves_now g.D.Sectors g.met.D.Sectors.only_now c.args.store.now at.fine),
    )

pub returns-in-Err-replace_root-clause-causes : goal.returns-in-Err-replace_root-clause-causes
returns-in-Err-replace_root-clause-causes g c cause w at k =
    replaced_causes g.D.Sectors c.args.store.now c.replace_root.new.store w (aimed w) c.args.root.now c.in-Ok.next [] at
    (makes_target (stores.content_of g.D.Sectors c.args.store.now) c.args.root.now c.in-Ok.next w c.batches.result.now
    c.in-Ok.ensures.ok c.batches.ensures.value)
    [] c.in-Err-replace_root.fault (λ same. refl)
    (c.replace_root.ensures.calls.word k) (c.in-Err-replace_root.ensures.causes cause)

pub returns-in-Err-clause-leaves : goal.returns-in-Err-clause-leaves
returns-in-Err-clause-leaves g c w at =
    leaves_first g.D.Sectors g.met.D.Sectors.only_now c.args.store.now w c.args.root.now at _
    (λ content represents. inl represents)

pub returns-in-Err-clause-refused : goal.returns-in-Err-clause-refused
returns-in-Err-clause-refused g c other w at = (
  at,
  leaves_first g.D.Sectors g.met.D.Sectors.only_now c.args.store.now w c.args.root.now at _
      (λ content represents. represents),
)

pub returns-in-Err-clause-calls : goal.returns-in-Err-clause-calls
returns-in-Err-clause-calls g c =
    out_of_memory g.D.Sectors c.in-Err.fault c.args.store.now c.requires.fine c.in-Err.ensures.memory

pub returns-in-Err-replace_root-clause-loaded : goal.returns-in-Err-replace_root-clause-loaded
returns-in-Err-replace_root-clause-loaded g c =
    loaded_or_before g.D.Sectors c.args.store.now c.replace_root.new.store c.args.root.now c.replace_root.new.root
    c.replace_root.result c.replace_root.ensures.loaded c.replace_root.ensures.kept c.replace_root.ensures.refused
    c.replace_root.ensures.calls.device
