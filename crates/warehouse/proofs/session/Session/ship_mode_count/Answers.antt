use Rattle.std.proofs.Common.{◌≡◌, ap, refl, sym, ◌∙◌, Some, length, ℕ, List}
use Rattle.warehouse_root.specs.Root.{PlainRoot}
use Rattle.warehouse_root.specs.declared.layout.Layout.{Layout}
use Rattle.warehouse_root.specs.declared.layout.Layout.TheVariants.{Second}
use Rattle.warehouse_objects.specs.Warehouse.{ship_modes_of}
use Rattle.warehouse.specs.Choosing.{modes_counted}
use Rattle.warehouse.specs.Session.{content_of}
use Rattle.warehouse.proofs.Cuboids.{members_at, represented_agrees}
use Rattle.warehouse.proofs.session.Session.ship_mode_count.Goals as goal

pub returns-in-Second : goal.returns-in-Second
returns-in-Second g c w at k =
    let s = c.args.self.now in
    let agree = represented_agrees (content_of g.D.Sectors s) w s.modes (s.loaded at.fine k)
    (at.represents k) in
    let members = members_at g.D.Sectors w s at _ refl k in
    let second : w.layout ≡ Second = ap (λ (root : PlainRoot). root.layout) agree.root_is ∙ sym c.layout.ensures.value
    ∙ c.in-Second.is in
    ap (λ (n : ℕ). Some n) (c.len.ensures.many ∙ ap (λ (l : List (List ℕ)). length l) members.modes)
    ∙ sym (ap (λ (layout : Layout). modes_counted layout (ship_modes_of w)) second)
