use Rattle.std.proofs.Common.{◌≡◌, take}
use Rattle.view_choice.specs.Choice.{benefits}
use Rattle.view_choice.specs.Costs.{costed}
use Rattle.view_choice.specs.Cuboids.{cuboids_for}
use Rattle.view_choice.proofs.choice.benefits_for.Given as goal

abbrev pub invariant-loop-view : goal.invariant-loop-view
invariant-loop-view l = record {
  kept : l.all.items ≡ costed (cuboids_for l.rows l.counts l.demanded) (take l.view-index l.views);
  found : l.found.items ≡ benefits (cuboids_for l.rows l.counts l.demanded) (take l.view-index l.views);
}
