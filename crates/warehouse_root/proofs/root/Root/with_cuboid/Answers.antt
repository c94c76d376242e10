use Rattle.std.proofs.Common.{◌≡◌, length, sym, ap, ◌∙◌, subst}
use Rattle.warehouse_root.specs.Root.{IsProperCuboid, PlainRoot, put_stored_cuboid}
use Rattle.warehouse_root.proofs.RootLemmas.{placed}
use Rattle.warehouse_root.proofs.root.Root.with_cuboid.Goals as goal

pub invariant_of-result : goal.invariant_of-result
invariant_of-result c =
    let batches : c.in_ok-batches.batches.items ≡ c.self.inside.batches.items = c.in_ok-batches.ensures.items
    ∙ c.deref.ensures.value in
    let cuboids : c.in_ok-cuboids.cuboids.items ≡ put_stored_cuboid c.args.cuboid c.self.inside.cuboids.items =
    c.in_ok-cuboids.ensures.ok ∙ ap (put_stored_cuboid c.args.cuboid) c.deref-2.ensures.value in
    rw (batches, cuboids) (placed c.args.cuboid _ c.self.invariant
    (subst (λ (root : PlainRoot). IsProperCuboid root.layout (length root.batches) c.args.cuboid) (sym c.self.view_is)
    c.requires))
