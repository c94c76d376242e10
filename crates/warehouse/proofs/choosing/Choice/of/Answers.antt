use Rattle.std.proofs.Common.{[], length, sym, ◌∙◌, ap}
use Rattle.std.specs.Option.{option_map}
use Rattle.warehouse.specs.Choosing.{lattice_asked}
use Rattle.warehouse.proofs.Choices.{many_benefits}
use Rattle.warehouse.proofs.choosing.Choice.of.Goals as goal

pub paired-requires : goal.paired-requires
paired-requires c = record {
  same = ap length (c.as_slice-3.ensures.value ∙ c.in_ok-benefits.ensures.benefits)
      ∙ many_benefits (lattice_asked c.args.rows c.args.counts.now (option_map (λ views. views.now) c.args.asked)) []
      c.as_slice.result.now ∙ ap length (c.as_slice.ensures.value ∙ sym c.as_slice-2.ensures.value);
}
