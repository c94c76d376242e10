use Rattle.std.proofs.Common.{◌≡◌, ◌≤◌, true, false, Err, List, [], ◌∷◌, ℕ, length, All, refl, sym, ◌∙◌, ap, subst}
use Rattle.cube_model.specs.declared.fault.Fault.{Fault}
use Rattle.wire.specs.Limits.{most_root_bytes}
use Rattle.object_store.specs.Content.{Content}
use Rattle.object_store.specs.Store as stores
use Rattle.warehouse_root.specs.Layouts.{layout_number}
use Rattle.warehouse_root.proofs.CallerLemmas.{root_is_short}
use Rattle.warehouse_objects.specs.Represents.{Represents}
use Rattle.warehouse_objects.specs.Warehouse.{kept}
use Rattle.warehouse_objects.specs.Loaded.{IsLoaded}
use Rattle.stored_cuboids.specs.Nexts.{first_run}
use Rattle.stored_cuboids.proofs.KeepingLemmas.{after, few_one, loaded_next, next_leaves, refuses_same}
use Rattle.warehouse_root.specs.Root.{IsRoot}
use Rattle.object_store.specs.Disk.{disk}
use Rattle.stored_cuboids.proofs.keeping.keep_one.Goals as goal

pub commit-requires-clause-root : goal.commit-requires-clause-root
commit-requires-clause-root g c =
    subst (λ (b : List ℕ). length b ≤ most_root_bytes) (sym c.as_slice-3.ensures.value)
    (root_is_short c.args.next.now.root_bytes.items c.args.next.now.root c.requires.root)

pub commit-requires-clause-few : goal.commit-requires-clause-few
commit-requires-clause-few g c =
    few_one (stores.content_of g.D.Sectors c.args.store.now) ((c.args.next.now.id, c.as_slice.result.now) ∷ [])
    c.as_slice-2.result.now c.as_slice-3.result.now c.number.result refl c.requires.few

pub returns-in-Ok-clause-leaves : goal.returns-in-Ok-clause-leaves
returns-in-Ok-clause-leaves g c w root old new run at brings =
    next_leaves (stores.content_of g.D.Sectors c.args.store.now) w old new run c.args.next.now c.as_slice.result.now
    c.as_slice-2.result.now c.as_slice-3.result.now c.number.result
    c.as_slice.ensures.value c.as_slice-2.ensures.value c.as_slice-3.ensures.value
    (c.number.ensures ∙ ap layout_number c.layout.ensures.value)
    (stores.disk_of g.D.Sectors c.args.store.now) (stores.disk_of g.D.Sectors c.commit.new.self) at.represents brings
    (c.commit.ensures.leaves at.fine)

pub returns-in-Err-clause-leaves : goal.returns-in-Err-clause-leaves
returns-in-Err-clause-leaves g c w root old new run at brings =
    next_leaves (stores.content_of g.D.Sectors c.args.store.now) w old new run c.args.next.now c.as_slice.result.now
    c.as_slice-2.result.now c.as_slice-3.result.now c.number.result
    c.as_slice.ensures.value c.as_slice-2.ensures.value c.as_slice-3.ensures.value
    (c.number.ensures ∙ ap layout_number c.layout.ensures.value)
    (stores.disk_of g.D.Sectors c.args.store.now) (stores.disk_of g.D.Sectors c.commit.new.self) at.represents brings
    (c.commit.ensures.leaves at.fine)

pub returns-in-Ok-clause-ok : goal.returns-in-Ok-clause-ok
returns-in-Ok-clause-ok g c w root old new run at brings =
    let word = (c.commit.ensures.leaves at.fine).word in record {
      fine = c.in-Ok.ensures.fine.1;
      represents = λ k. subst (λ (x : Content). Represents x (kept w new)) (sym (c.in-Ok.ensures.ok k))
          (after (stores.content_of g.D.Sectors c.args.store.now) w old new run c.args.next.now c.as_slice.result.now
          c.as_slice-2.result.now c.as_slice-3.result.now c.number.result
          c.as_slice.ensures.value c.as_slice-2.ensures.value c.as_slice-3.ensures.value
          (c.number.ensures ∙ ap layout_number c.layout.ensures.value)
          (at.represents (word k)) brings);
      root_is = λ k. sym brings.root;
    }

pub returns-in-Ok-clause-loaded : goal.returns-in-Ok-clause-loaded
returns-in-Ok-clause-loaded g c k rows modes root is same =
    let next = c.args.next.now in
    let drops_are : c.as_slice-2.result.now ≡ next.drops.items = c.as_slice-2.ensures.value in
    subst (λ (x : Content). IsLoaded x rows modes next.root) (sym (c.in-Ok.ensures.ok k))
    (loaded_next (stores.content_of g.D.Sectors c.args.store.now) next.id c.as_slice.result.now c.as_slice-2.result.now
    c.as_slice-3.result.now c.number.result
    (subst (λ (d : List ℕ). All (λ i. first_run ≤ i) (next.id ∷ d)) (sym drops_are) c.requires.runs)
    next.root (c.number.ensures ∙ ap layout_number c.layout.ensures.value)
    (subst (λ (b : List ℕ). IsRoot b next.root) (sym c.as_slice-3.ensures.value) c.requires.root) rows modes root same
    is)

pub returns-in-Err-clause-causes : goal.returns-in-Err-clause-causes
returns-in-Err-clause-causes g c device =
    let next = c.args.next.now in
    refuses_same (stores.content_of g.D.Sectors c.args.store.now) (stores.room_of c.args.store.now) next.id
    c.as_slice.result.now next.bytes.items c.as_slice-2.result.now next.drops.items
    c.as_slice-3.result.now next.root_bytes.items _ c.as_slice.ensures.value c.as_slice-2.ensures.value
    c.as_slice-3.ensures.value
    (c.in-Err.ensures.refuses device (λ failed.
    let broken = c.commit.ensures.failed.0 (c.in-Err.is ∙ ap (λ (f : Fault). Err f) failed) in
    let both : true ≡ false = sym broken ∙ c.requires.fine in absurd cc))

pub returns-in-Ok-clause-calls : goal.returns-in-Ok-clause-calls
returns-in-Ok-clause-calls g c = record {
  failed = λ is. cc;
  device = λ is. absurd cc;
  fine = λ other. c.in-Ok.ensures.fine.1;
  failures = λ other. c.in-Ok.ensures.failures;
  word = (c.commit.ensures.leaves c.requires.fine).word;
}

pub returns-in-Err-clause-calls : goal.returns-in-Err-clause-calls
returns-in-Err-clause-calls g c =
    let fine = c.requires.fine in
    let refused = c.in-Err.ensures.refused in record {
      failed = λ is. let broken : true ≡ false = sym (c.in-Err.ensures.failed.0 is) ∙ fine in absurd cc;
      device = c.in-Err.ensures.device;
      fine = λ other. (refused (λ e. other (ap (λ (f : Fault). Err f) e))).failed ∙ fine;
      failures = λ other. ap (λ d. (disk g.D.Sectors d).failures)
          (refused (λ e. other (ap (λ (f : Fault). Err f) e))).device;
      word = (c.commit.ensures.leaves fine).word;
    }
