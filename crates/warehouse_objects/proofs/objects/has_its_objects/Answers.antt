use Rattle.std.proofs.Common.{◌≡◌, true≢false, IsTrue, is_some, All, List, ℕ, length, sym, ◌∙◌, ap, subst, arith}
use Rattle.std.proofs.Common.{vec_len, rules}
use Rattle.object_store.specs.Content.{bytes_of}
use Rattle.object_store.specs.Store.{content_of}
use Rattle.warehouse_root.specs.Root.{PlainRoot}
use Rattle.warehouse_objects.specs.Represents.{HasItsObjects}
use Rattle.warehouse_objects.proofs.Asked.{has_objects}
use Rattle.warehouse_objects.proofs.objects.has_its_objects.Goals as goal

pub returns-then-objects-len-clause-represents : goal.returns-then-objects-len-clause-represents
returns-then-objects-len-clause-represents g c _ k w represents same =
    let has : HasItsObjects (content_of g.D.Sectors c.args.store.now) c.args.root.now =
    subst (λ (r : PlainRoot). HasItsObjects (content_of g.D.Sectors c.args.store.now) r) (sym same)
    (has_objects (content_of g.D.Sectors c.args.store.now) w represents) in
    let many : vec_len c.in_ok-ids.ids ≡ length c.in_ok-ids.ids.items = search rules in
    omega (
      arith,
      c.if-objects-len.true,
      c.len.ensures,
      many,
      ap length c.in_ok-ids.ensures.ok,
      c.objects.ensures,
      has.few,
    )

pub returns-clause-represents : goal.returns-clause-represents
returns-clause-represents g c lacks k w represents same =
    let has : HasItsObjects (content_of g.D.Sectors c.args.store.now) c.args.root.now =
    subst (λ (r : PlainRoot). HasItsObjects (content_of g.D.Sectors c.args.store.now) r) (sym same)
    (has_objects (content_of g.D.Sectors c.args.store.now) w represents) in
    let yes : IsTrue c.has_each.result = (c.has_each.ensures k).1
    (subst (λ (ids : List ℕ). All (λ id. IsTrue (is_some (bytes_of (content_of g.D.Sectors c.args.store.now) id))) ids)
    (sym (c.deref.ensures.value ∙ c.in_ok-ids.ensures.ok)) has.each) in
    true≢false (sym yes ∙ lacks)
