use Rattle.std.proofs.Common.{◌≡◌, ◌∙◌}
use Rattle.warehouse_root.proofs.RootLemmas.{moved}
use Rattle.warehouse_root.proofs.root.Root.in_second_layout.Goals as goal

pub invariant_of-result : goal.invariant_of-result
invariant_of-result c =
    let batches : c.in_ok-batches.batches.items ≡ c.self.inside.batches.items = c.in_ok-batches.ensures.items
    ∙ c.deref.ensures.value in
    let cuboids : c.in_ok-cuboids.cuboids.items ≡ c.self.inside.cuboids.items = c.in_ok-cuboids.ensures.items
    ∙ c.deref-2.ensures.value in
    rw (batches, cuboids) (moved _ c.self.invariant)
