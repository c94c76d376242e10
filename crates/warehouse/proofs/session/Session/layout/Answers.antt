use Rattle.std.proofs.Common.{ap, sym, ◌∙◌}
use Rattle.warehouse_root.specs.Root.{PlainRoot}
use Rattle.warehouse.specs.Session.{content_of}
use Rattle.warehouse.proofs.Cuboids.{represented_agrees}
use Rattle.warehouse.proofs.session.Session.layout.Goals as goal

pub returns : goal.returns
returns g c w at k =
    let s = c.args.self.now in
    let agree = represented_agrees (content_of g.D.Sectors s) w s.modes (s.loaded at.fine k)
    (at.represents k) in
    c.layout.ensures.value ∙ ap (λ (root : PlainRoot). root.layout) (sym agree.root_is)
