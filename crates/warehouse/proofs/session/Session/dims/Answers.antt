use Rattle.std.proofs.Common.{sym, ◌∙◌}
use Rattle.warehouse.specs.Session.{content_of}
use Rattle.warehouse.proofs.Cuboids.{represented_agrees}
use Rattle.warehouse.proofs.session.Session.dims.Goals as goal

pub returns : goal.returns
returns g c w at k =
    let s = c.args.self.now in
    let agree = represented_agrees (content_of g.D.Sectors s) w s.modes (s.loaded at.fine k)
    (at.represents k) in
    c.deref.ensures ∙ sym agree.rows_are
