use Rattle.std.proofs.Common.{List, Option, ap, subst}
use Rattle.std.specs.Option.{option_map}
use Rattle.lattice.specs.declared.view.View.{View}
use Rattle.warehouse.specs.Choosing.{AreTooMany}
use Rattle.warehouse.proofs.Choices.{few_asked}
use Rattle.warehouse.proofs.choosing.benefits_asked.Goals as goal

pub benefits_for-requires : goal.benefits_for-requires
benefits_for-requires c = record {
  rows = c.requires.rows;
  few = few_asked c.args.k c.in-Some.demanded.now
      (subst (λ (asked : Option (List View)). AreTooMany c.args.k asked → ⊥)
      (ap (option_map (λ views. views.now)) c.in-Some.is) c.requires.few);
}
