use Rattle.std.proofs.Common.{◌∙◌, length, ap, sym}
use Rattle.object_store.specs.Store as stores
use Rattle.warehouse_root.specs.Root.{PlainRoot}
use Rattle.warehouse.specs.Comparing.{numbered}
use Rattle.warehouse.proofs.Compared.{numbered-map}
use Rattle.warehouse.proofs.Cuboids.{represented_agrees}
use Rattle.warehouse.proofs.session.Session.batch_rows.Goals as goal

pub returns : goal.returns
returns g c = λ w at k.
    let s = c.args.self.now in
    let agree = represented_agrees (stores.content_of g.D.Sectors s.store) w s.modes
    (s.loaded at.fine k)
    (at.represents k) in
    c.rows_of.ensures.rows ∙ ap (λ (root : PlainRoot). numbered root.batches c.args.number) (sym agree.root_is)
    ∙ numbered-map length w.batches c.args.number
