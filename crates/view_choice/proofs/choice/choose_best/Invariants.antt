use Rattle.std.proofs.Common.{◌≡◌, ℕ, ◌<◌, length, take, get_or}
use Rattle.lattice.specs.declared.view.View.{View}
use Rattle.view_choice.specs.Choice.{IsBest}
use Rattle.view_choice.specs.Costs.{costed}
use Rattle.view_choice.specs.Cuboids.{cuboids_by}
use Rattle.view_choice.proofs.choice.choose_best.Given as goal

abbrev pub invariant-loop : goal.invariant-loop
invariant-loop l = record {
  kept : l.all.items ≡ costed (cuboids_by l.fn.ties l.rows l.counts l.demanded) l.chosen.items;
  count : length l.chosen.items ≡ l.counter;
  each : (i : ℕ) → i < length l.chosen.items → (default : View)
      → IsBest (cuboids_by l.fn.ties l.rows l.counts l.demanded) (take i l.chosen.items)
      (get_or l.chosen.items i default);
}
