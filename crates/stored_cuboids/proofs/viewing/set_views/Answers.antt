use Rattle.std.proofs.Common.{◌≤◌, ℕ, List, All, sym, ap, ◌∙◌, subst, inl}
use Rattle.object_store.specs.Content.{Content}
use Rattle.object_store.specs.Store as stores
use Rattle.warehouse_root.specs.Root.{PlainRoot}
use Rattle.warehouse_objects.specs.Warehouse.{dropped_ids, with_views}
use Rattle.stored_cuboids.specs.Keeping.{StoreAt}
use Rattle.stored_cuboids.specs.Nexts.{first_run}
use Rattle.stored_cuboids.specs.Replacing.{dropped_of}
use Rattle.stored_cuboids.proofs.Replaced.{before_at, before_leaves, drops_high, generation_replaced, makes_views}
use Rattle.stored_cuboids.proofs.Replaced.{replaced_at, replaced_causes, replaced_leaves, viewed_drops}
use Rattle.object_store.proofs.CallerLemmas.{leaves_now}
use Rattle.stored_cuboids.proofs.LaterReads.{leaves_first, loaded_or_before}
use Rattle.stored_cuboids.proofs.StoreCalls.{out_of_memory}
use Rattle.stored_cuboids.proofs.viewing.set_views.Goals as goal

pub replace_root-requires-clause-runs : goal.replace_root-requires-clause-runs
replace_root-requires-clause-runs g c =
    subst (λ (l : List ℕ). All (λ id. first_run ≤ id) l) (sym (c.as_slice.ensures.value ∙ c.in-Ok.ensures.ok))
    (drops_high c.args.views.now c.cuboids.result.now)

pub returns-in-Ok-replace_root-clause-leaves : goal.returns-in-Ok-replace_root-clause-leaves
returns-in-Ok-replace_root-clause-leaves g c w at =
    replaced_leaves g.D.Sectors c.args.store.now c.replace_root.new.store w (with_views w c.args.views.now)
    c.args.root.now c.in-Ok-viewed.next c.as_slice.result.now at
    (makes_views (stores.content_of g.D.Sectors c.args.store.now) c.args.root.now c.in-Ok-viewed.next w c.args.views.now
    c.as_slice.result.now c.requires.few c.in-Ok-viewed.ensures.ok
    (c.as_slice.ensures.value ∙ c.in-Ok.ensures.ok ∙ ap (dropped_of c.args.views.now) c.cuboids.ensures.value))
    c.replace_root.ensures.leaves

pub returns-in-Ok-replace_root-clause-ok : goal.returns-in-Ok-replace_root-clause-ok
returns-in-Ok-replace_root-clause-ok g c w at =
    subst (λ (r : PlainRoot). StoreAt g.D.Sectors c.replace_root.new.store r (with_views w c.args.views.now))
    (sym c.in-Ok-replace_root.ensures.root)
    (replaced_at g.D.Sectors c.args.store.now c.replace_root.new.store w (with_views w c.args.views.now) c.args.root.now
    c.in-Ok-viewed.next c.as_slice.result.now at
    (makes_views (stores.content_of g.D.Sectors c.args.store.now) c.args.root.now c.in-Ok-viewed.next w c.args.views.now
    c.as_slice.result.now c.requires.few c.in-Ok-viewed.ensures.ok
    (c.as_slice.ensures.value ∙ c.in-Ok.ensures.ok ∙ ap (dropped_of c.args.views.now) c.cuboids.ensures.value))
    (c.in-Ok-replace_root.ensures.calls.fine (λ is. cc)) c.replace_root.ensures.calls.word
    c.in-Ok-replace_root.ensures.ok)

pub returns-in-Ok-replace_root-clause-once : goal.returns-in-Ok-replace_root-clause-once
returns-in-Ok-replace_root-clause-once g c k =
    ap (λ (x : Content). x.generation) (c.in-Ok-replace_root.ensures.ok k)
    ∙ generation_replaced (stores.content_of g.D.Sectors c.args.store.now) c.as_slice.result.now c.in-Ok-viewed.next

pub returns-clause-leaves : goal.returns-clause-leaves
returns-clause-leaves g c w at =
    replaced_leaves g.D.Sectors c.args.store.now c.replace_root.new.store w (with_views w c.args.views.now)
    c.args.root.now c.in-Ok-viewed.next c.as_slice.result.now at
    (makes_views (stores.content_of g.D.Sectors c.args.store.now) c.args.root.now c.in-Ok-viewed.next w c.args.views.now
    c.as_slice.result.now c.requires.few c.in-Ok-viewed.ensures.ok
    (c.as_slice.ensures.value ∙ c.in-Ok.ensures.ok ∙ ap (dropped_of c.args.views.now) c.cuboids.ensures.value))
    c.replace_root.ensures.leaves

pub returns-clause-refused : goal.returns-clause-refused
returns-clause-refused g c cause w at =
    let same = c.in-Err-replace_root.ensures.refused cause in (
      subst (λ (r : PlainRoot). StoreAt g.D.Sectors c.replace_root.new.store r w)
          (sym c.in-Err-replace_root.ensures.kept)
          (before_at g.D.Sectors c.args.store.now c.replace_root.new.store w c.args.root.now at same),
      before_leaves g.D.Sectors c.args.store.now c.replace_root.new.store w c.args.root.now at same
          (leaves_now g.D.Sectors g.met.D.Sectors.only_now c.args.store.now at.fine),
    )

pub returns-clause-causes : goal.returns-clause-causes
returns-clause-causes g c cause w at k =
    replaced_causes g.D.Sectors c.args.store.now c.replace_root.new.store w (with_views w c.args.views.now)
    c.args.root.now c.in-Ok-viewed.next c.as_slice.result.now at
    (makes_views (stores.content_of g.D.Sectors c.args.store.now) c.args.root.now c.in-Ok-viewed.next w c.args.views.now
    c.as_slice.result.now c.requires.few c.in-Ok-viewed.ensures.ok
    (c.as_slice.ensures.value ∙ c.in-Ok.ensures.ok ∙ ap (dropped_of c.args.views.now) c.cuboids.ensures.value))
    (dropped_ids w c.args.views.now) c.in-Err-replace_root.fault
    (λ same. c.as_slice.ensures.value ∙ c.in-Ok.ensures.ok ∙ ap (dropped_of c.args.views.now) c.cuboids.ensures.value
    ∙ viewed_drops c.args.root.now w c.args.views.now same)
    (c.replace_root.ensures.calls.word k) (c.in-Err-replace_root.ensures.causes cause)

pub returns-in-Err-clause-leaves : goal.returns-in-Err-clause-leaves
returns-in-Err-clause-leaves g c w at =
    leaves_first g.D.Sectors g.met.D.Sectors.only_now c.args.store.now w c.args.root.now at _
    (λ content represents. inl represents)

pub returns-in-Err-clause-refused : goal.returns-in-Err-clause-refused
returns-in-Err-clause-refused g c other w at = (
  at,
  leaves_first g.D.Sectors g.met.D.Sectors.only_now c.args.store.now w c.args.root.now at _
      (λ content represents. represents),
)

pub returns-in-Err-viewed-clause-leaves : goal.returns-in-Err-viewed-clause-leaves
returns-in-Err-viewed-clause-leaves g c w at =
    leaves_first g.D.Sectors g.met.D.Sectors.only_now c.args.store.now w c.args.root.now at _
    (λ content represents. inl represents)

pub returns-in-Err-viewed-clause-refused : goal.returns-in-Err-viewed-clause-refused
returns-in-Err-viewed-clause-refused g c other w at = (
  at,
  leaves_first g.D.Sectors g.met.D.Sectors.only_now c.args.store.now w c.args.root.now at _
      (λ content represents. represents),
)

pub returns-clause-loaded : goal.returns-clause-loaded
returns-clause-loaded g c =
    loaded_or_before g.D.Sectors c.args.store.now c.replace_root.new.store c.args.root.now c.replace_root.new.root
    c.replace_root.result c.replace_root.ensures.loaded c.replace_root.ensures.kept c.replace_root.ensures.refused
    c.replace_root.ensures.calls.device

pub returns-in-Err-clause-calls : goal.returns-in-Err-clause-calls
returns-in-Err-clause-calls g c =
    out_of_memory g.D.Sectors c.in-Err.fault c.args.store.now c.requires.fine c.in-Err.ensures.memory

pub returns-in-Err-viewed-clause-calls : goal.returns-in-Err-viewed-clause-calls
returns-in-Err-viewed-clause-calls g c =
    out_of_memory g.D.Sectors c.in-Err-viewed.fault c.args.store.now c.requires.fine c.in-Err-viewed.ensures.memory
