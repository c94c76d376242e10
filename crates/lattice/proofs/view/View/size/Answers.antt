use Rattle.lattice.specs.Sizes.{members_at, mode_count}
use Rattle.lattice.proofs.ViewLemmas.{cut_all}
use Rattle.lattice.proofs.view.View.size.Goals as goal

pub returns : goal.returns
returns c = rw (
  c.cut_product.ensures,
  c.members-4.ensures,
  c.cut_product-supplier.ensures,
  c.members-3.ensures,
  c.cut_product-part.ensures,
  c.members-2.ensures,
  c.cut_product-date.ensures,
  c.members.ensures,
  c.from-modes.ensures,
  c.modes.ensures,
)
    (cut_all c.args.rows (members_at c.args.counts.now.customer c.args.self.customer)
    (members_at c.args.counts.now.supplier c.args.self.supplier) (members_at c.args.counts.now.part c.args.self.part)
    (members_at c.args.counts.now.date c.args.self.date)
    (mode_count c.args.counts.now.ship_modes c.args.self.ship_mode))
