use Rattle.std.proofs.Common.{◌≡◌, ◌≤◌, ℕ, List, All, length, sym, ap, ◌∙◌, subst}
use Rattle.warehouse_root.specs.declared.cuboid.StoredCuboid.{StoredCuboid}
use Rattle.warehouse_root.specs.Layouts.{view_count}
use Rattle.warehouse_root.specs.Limits.{most_cuboids}
use Rattle.warehouse_root.specs.Root.{ViewsAscend, IsProperCuboid}
use Rattle.warehouse_objects.specs.Represents.{said_below, said_with}
use Rattle.warehouse_objects.proofs.CallerLemmas.{said_ascend, said_each, said_few}
use Rattle.stored_cuboids.proofs.viewing.viewed.Goals as goal

pub with_cuboids-requires-clause-few : goal.with_cuboids-requires-clause-few
with_cuboids-requires-clause-few c =
    let root = c.args.root.now in
    let said : c.in_ok-cuboids.cuboids.items ≡ said_with root.layout c.args.views.now root.cuboids =
    c.in_ok-cuboids.ensures.ok
    ∙ ap (λ (n : ℕ). said_below n c.args.views.now c.cuboids.result.now)
    (c.views.ensures ∙ ap view_count c.layout.ensures.value)
    ∙ ap (said_with root.layout c.args.views.now) c.cuboids.ensures.value in
    subst (λ (l : List StoredCuboid). length l ≤ most_cuboids) (sym said)
    (said_few c.args.views.now root.cuboids root.layout c.requires.few)

pub with_cuboids-requires-clause-each : goal.with_cuboids-requires-clause-each
with_cuboids-requires-clause-each c =
    let root = c.args.root.now in
    let said : c.in_ok-cuboids.cuboids.items ≡ said_with root.layout c.args.views.now root.cuboids =
    c.in_ok-cuboids.ensures.ok
    ∙ ap (λ (n : ℕ). said_below n c.args.views.now c.cuboids.result.now)
    (c.views.ensures ∙ ap view_count c.layout.ensures.value)
    ∙ ap (said_with root.layout c.args.views.now) c.cuboids.ensures.value in
    subst (λ (l : List StoredCuboid). All (IsProperCuboid root.layout (length root.batches)) l) (sym said)
    (said_each c.args.views.now root.cuboids root.layout (length root.batches) c.layout.ensures.proper.each)

pub with_cuboids-requires-clause-ascending : goal.with_cuboids-requires-clause-ascending
with_cuboids-requires-clause-ascending c =
    let root = c.args.root.now in
    let said : c.in_ok-cuboids.cuboids.items ≡ said_with root.layout c.args.views.now root.cuboids =
    c.in_ok-cuboids.ensures.ok
    ∙ ap (λ (n : ℕ). said_below n c.args.views.now c.cuboids.result.now)
    (c.views.ensures ∙ ap view_count c.layout.ensures.value)
    ∙ ap (said_with root.layout c.args.views.now) c.cuboids.ensures.value in
    subst (λ (l : List StoredCuboid). ViewsAscend l) (sym said)
    (said_ascend c.args.views.now root.cuboids root.layout)
