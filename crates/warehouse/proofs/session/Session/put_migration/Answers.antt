use Rattle.std.proofs.Common.{◌≡◌, ◌≤◌, ℕ, List, [], ◌∷◌, length, refl, sym, ◌∙◌, ap, subst, true, false, Err, inr}
use Rattle.wire.specs.Limits.{most_root_bytes}
use Rattle.object_store.specs.Content.{Content}
use Rattle.object_store.specs.Store as stores
use Rattle.object_store.proofs.CallerLemmas.{generation_after}
use Rattle.warehouse_root.specs.Layouts.{layout_number}
use Rattle.warehouse_root.proofs.CallerLemmas.{root_is_short}
use Rattle.warehouse_objects.specs.Loaded.{IsLoaded}
use Rattle.warehouse_objects.specs.Represents.{Represents}
use Rattle.warehouse_objects.specs.Warehouse.{migrated}
use Rattle.warehouse.proofs.Represented.{is_at}
use Rattle.warehouse.proofs.SessionLemmas.{can_migrate, few_moved, loaded_moved, migration_is_put, moved_leaves}
use Rattle.warehouse.proofs.SessionLemmas.{moved_causes}
use Rattle.warehouse.proofs.SessionLemmas.{leaves_at}
use Rattle.warehouse.proofs.SessionLemmas.{represents_moved}
use Rattle.warehouse.proofs.Represented.{as_before_at, as_before_leaves, session_at, store_at}
use Rattle.warehouse.proofs.session.Session.put_migration.Goals as goal

pub commit-requires-clause-puts : goal.commit-requires-clause-puts
commit-requires-clause-puts g c =
    migration_is_put c.args.self.now.root c.args.migration ((5, c.as_slice.result.now) ∷ []) c.requires.ready
    (ap (λ (b : List ℕ). (5, b) ∷ []) c.as_slice.ensures.value)

pub commit-requires-clause-root : goal.commit-requires-clause-root
commit-requires-clause-root g c =
    let m = c.args.migration in
    subst (λ (b : List ℕ). length b ≤ most_root_bytes) (sym c.as_slice-2.ensures.value)
    (root_is_short m.root_bytes.items m.root c.requires.ready.spelled)

pub commit-requires-clause-few : goal.commit-requires-clause-few
commit-requires-clause-few g c =
    few_moved (stores.content_of g.D.Sectors c.args.self.now.store) ((5, c.as_slice.result.now) ∷ [])
    c.as_slice-2.result.now c.number-layout.result (5, c.as_slice.result.now) refl c.requires.few

pub invariant_of-self : goal.invariant_of-self
invariant_of-self g c = record {
  loaded = λ fine k.
      let s = c.args.self.now in
      let content = stores.content_of g.D.Sectors s.store in
      let m = c.args.migration in
      let puts : List (ℕ × List ℕ) = (5, c.as_slice.result.now) ∷ [] in
      let puts_are : puts ≡ (5, m.bytes.items) ∷ [] = ap (λ (b : List ℕ). (5, b) ∷ []) c.as_slice.ensures.value in
      let layout_is = c.number-layout.ensures ∙ ap layout_number c.layout.ensures.value in
      let was = s.loaded c.requires.fine ((c.commit.ensures.leaves c.requires.fine).word k) in
      subst (λ (x : Content). IsLoaded x s.dims.value m.modes m.root) (sym (c.in-Ok.ensures.ok k))
      (loaded_moved content s.root m c.requires.ready puts c.as_slice-2.result.now c.number-layout.result puts_are
      c.as_slice-2.ensures.value layout_is s.dims.value s.modes was);
}

pub returns-in-Ok-clause-leaves : goal.returns-in-Ok-clause-leaves
returns-in-Ok-clause-leaves g c w at of first =
    let s = c.args.self.now in
    let content = stores.content_of g.D.Sectors s.store in
    let m = c.args.migration in
    let puts : List (ℕ × List ℕ) = (5, c.as_slice.result.now) ∷ [] in
    let puts_are : puts ≡ (5, m.bytes.items) ∷ [] = ap (λ (b : List ℕ). (5, b) ∷ []) c.as_slice.ensures.value in
    let layout_is = c.number-layout.ensures ∙ ap layout_number c.layout.ensures.value in
    moved_leaves content s.root m c.requires.ready puts c.as_slice-2.result.now c.number-layout.result puts_are
    c.as_slice-2.ensures.value layout_is w (stores.disk_of g.D.Sectors s.store)
    (stores.disk_of g.D.Sectors c.commit.new.self)
    at.represents of first (c.commit.ensures.leaves at.fine)

pub returns-in-Err-clause-leaves : goal.returns-in-Err-clause-leaves
returns-in-Err-clause-leaves g c w at of first =
    let s = c.args.self.now in
    let content = stores.content_of g.D.Sectors s.store in
    let m = c.args.migration in
    let puts : List (ℕ × List ℕ) = (5, c.as_slice.result.now) ∷ [] in
    let puts_are : puts ≡ (5, m.bytes.items) ∷ [] = ap (λ (b : List ℕ). (5, b) ∷ []) c.as_slice.ensures.value in
    let layout_is = c.number-layout.ensures ∙ ap layout_number c.layout.ensures.value in
    moved_leaves content s.root m c.requires.ready puts c.as_slice-2.result.now c.number-layout.result puts_are
    c.as_slice-2.ensures.value layout_is w (stores.disk_of g.D.Sectors s.store)
    (stores.disk_of g.D.Sectors c.commit.new.self)
    at.represents of first (c.commit.ensures.leaves at.fine)

pub returns-in-Ok-clause-ok : goal.returns-in-Ok-clause-ok
returns-in-Ok-clause-ok g c w at of first =
    let s = c.args.self.now in
    let content = stores.content_of g.D.Sectors s.store in
    let m = c.args.migration in
    let puts : List (ℕ × List ℕ) = (5, c.as_slice.result.now) ∷ [] in
    let puts_are : puts ≡ (5, m.bytes.items) ∷ [] = ap (λ (b : List ℕ). (5, b) ∷ []) c.as_slice.ensures.value in
    let layout_is = c.number-layout.ensures ∙ ap layout_number c.layout.ensures.value in
    let word = (c.commit.ensures.leaves at.fine).word in (
      is_at g.D.Sectors _ (migrated w) c.in-Ok.ensures.fine.1
          (λ k. subst (λ (x : Content). Represents x (migrated w)) (sym (c.in-Ok.ensures.ok k))
          (represents_moved content s.root m c.requires.ready puts c.as_slice-2.result.now c.number-layout.result
          puts_are c.as_slice-2.ensures.value layout_is w (of (word k)) (at.represents (word k)))),
      λ k. can_migrate content s.root m c.requires.ready puts c.as_slice-2.result.now c.number-layout.result puts_are
          c.as_slice-2.ensures.value layout_is w (of (word k)) first,
    )

pub returns-in-Ok-clause-once : goal.returns-in-Ok-clause-once
returns-in-Ok-clause-once g c k =
    ap (λ (x : Content). x.generation) (c.in-Ok.ensures.ok k)
    ∙ generation_after ((5, c.as_slice.result.now) ∷ []) [] c.as_slice-2.result.now c.number-layout.result
    (stores.content_of g.D.Sectors c.args.self.now.store)

pub returns-in-Err-clause-refused : goal.returns-in-Err-clause-refused
returns-in-Err-clause-refused g c cause w at =
    let same = c.in-Err.ensures.refused cause in (
      session_at g.D.Sectors w _
          (as_before_at g.D.Sectors w c.args.self.now.store c.commit.new.self
          (store_at g.D.Sectors w c.args.self.now at) same),
      as_before_leaves g.D.Sectors w c.args.self.now.store c.commit.new.self same
          (leaves_at g.D.Sectors g.met.D.Sectors.only_now c.args.self.now w at),
    )

pub invariant_of-self-in-Err-1 : goal.invariant_of-self-in-Err-1
invariant_of-self-in-Err-1 g c = record {
  loaded = λ fine k.
      let s = c.args.self.now in
      let before = c.in-Err.ensures.refused
      (λ e. let bad : true ≡ false = sym (c.in-Err.ensures.device (ap (λ f. Err f) e)).failed ∙ fine in
      absurd (cc)) in
      subst (λ (x : Content). IsLoaded x s.dims.value s.modes s.root) (sym before.content)
      (s.loaded (sym before.failed ∙ fine)
      (subst (λ (d : g.row.D.Denot). g.D.Sectors.keeps_word d) before.device k));
}

pub returns-in-Err-clause-causes : goal.returns-in-Err-clause-causes
returns-in-Err-clause-causes g c cause w at of first k =
    let s = c.args.self.now in
    let content = stores.content_of g.D.Sectors s.store in
    let m = c.args.migration in
    let puts : List (ℕ × List ℕ) = (5, c.as_slice.result.now) ∷ [] in
    let puts_are : puts ≡ (5, m.bytes.items) ∷ [] = ap (λ (b : List ℕ). (5, b) ∷ []) c.as_slice.ensures.value in
    let layout_is = c.number-layout.ensures ∙ ap layout_number c.layout.ensures.value in
    let word = (c.commit.ensures.leaves at.fine).word in
    inr (inr (
      can_migrate content s.root m c.requires.ready puts c.as_slice-2.result.now c.number-layout.result puts_are
          c.as_slice-2.ensures.value layout_is w (of (word k)) first,
      moved_causes content s.root m c.requires.ready puts c.as_slice-2.result.now c.number-layout.result puts_are
          c.as_slice-2.ensures.value layout_is w (of (word k)) (stores.room_of s.store) c.in-Err.fault
          (c.in-Err.ensures.refuses cause
          (λ e. let bad : true ≡ false = sym (c.in-Err.ensures.failed.0 (ap (λ f. Err f) e)) ∙ at.fine in
          absurd (cc))),
    ))
