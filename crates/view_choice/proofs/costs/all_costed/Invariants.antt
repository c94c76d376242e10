use Rattle.std.proofs.Common.{◌≡◌, take, map}
use Rattle.view_choice.specs.Costs.{costs_all_rows}
use Rattle.view_choice.proofs.costs.all_costed.Given as goal

abbrev pub invariant-loop-view : goal.invariant-loop-view
invariant-loop-view l = l.all.items ≡ map (costs_all_rows l.rows) (take l.view-index l.views)
