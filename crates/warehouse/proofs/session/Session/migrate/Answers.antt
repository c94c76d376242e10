use Rattle.std.proofs.Common.{◌≡◌, ap, sym, ◌∙◌, subst, refl, ℕ}
use Rattle.std.proofs.lemmas.Result.{IfErr-weaker, on_ok_weaker}
use Rattle.object_store.specs.Store as stores
use Rattle.warehouse_root.specs.declared.layout.Layout.{Layout}
use Rattle.warehouse_root.specs.declared.layout.Layout.TheVariants.{Second}
use Rattle.warehouse_root.specs.Root.{PlainRoot}
use Rattle.warehouse_objects.specs.Migration.{migration_refusal}
use Rattle.warehouse_objects.specs.Represents.{Represents}
use Rattle.warehouse_objects.specs.Warehouse.{Warehouse, migrated}
use Rattle.warehouse.proofs.Represented.{is_at, session_at, store_at}
use Rattle.warehouse.proofs.SessionLemmas.{fine_before, second_already, untouched}
use Rattle.warehouse.proofs.Cuboids.{represented_agrees}
use Rattle.cube_model.specs.declared.fault.Fault.TheVariants.{Failed}
use Rattle.warehouse.proofs.session.Session.migrate.Goals as goal

pub returns-in-First-clause-ok : goal.returns-in-First-clause-ok
returns-in-First-clause-ok g c =
    on_ok_weaker c.move_on.result
    (λ then w at. then w (session_at g.D.Sectors w _ (store_at g.D.Sectors w c.args.self.now at)))
    c.move_on.ensures.ok

pub returns-in-First-clause-causes : goal.returns-in-First-clause-causes
returns-in-First-clause-causes g c =
    IfErr-weaker c.move_on.result _ _ (λ fault causes other w at k. causes other w
    (session_at g.D.Sectors w _ (store_at g.D.Sectors w c.args.self.now at)) k) c.move_on.ensures.causes

pub returns-in-Second-clause-ok : goal.returns-in-Second-clause-ok
returns-in-Second-clause-ok g c w at =
    let s = c.args.self.now in
    let content = stores.content_of g.D.Sectors s.store in
    let second : g.D.Sectors.keeps_word (stores.device_of s.store) → w.layout ≡ Second = λ k.
    let agree = represented_agrees content w s.modes (s.loaded at.fine k) (at.represents k) in
    ap (λ (r : PlainRoot). r.layout) agree.root_is ∙ sym c.layout.ensures.value ∙ c.in-Second.is in (
      is_at g.D.Sectors _ (migrated w) at.fine
          (λ k. subst (λ (v : Warehouse). Represents content v) (second_already w (second k)) (at.represents k)),
      λ k. ap (λ (l : Layout). migration_refusal l w.batches) (second k),
    )

pub returns-then-is_broken-clause-refused : goal.returns-then-is_broken-clause-refused
returns-then-is_broken-clause-refused g c =
    untouched g.D.Sectors {B = ℕ} Failed c.args.self.now c.is_broken.ensures.leaves
    (λ is. sym c.is_broken.ensures.broken ∙ c.if-is_broken.true, λ broken. refl) (λ is. cc)

pub returns-in-First-clause-refused : goal.returns-in-First-clause-refused
returns-in-First-clause-refused g c =
    fine_before g.D.Sectors c.move_on.result c.args.self.now c.move_on.new.self
    (sym c.is_broken.ensures.broken ∙ c.if-is_broken.false)
    (IfErr-weaker c.move_on.result _ _ (λ fault refused other w at. refused other w
    (session_at g.D.Sectors w _ (store_at g.D.Sectors w c.args.self.now at))) c.move_on.ensures.refused)
    c.move_on.ensures.kept c.move_on.ensures.failed c.move_on.ensures.device c.move_on.ensures.word

pub returns-in-Second-clause-refused : goal.returns-in-Second-clause-refused
returns-in-Second-clause-refused g c =
    fine_before g.D.Sectors _ c.args.self.now _ (sym c.is_broken.ensures.broken ∙ c.if-is_broken.false) tt tt (λ is. cc)
    (λ is. absurd cc) (λ k. k)
