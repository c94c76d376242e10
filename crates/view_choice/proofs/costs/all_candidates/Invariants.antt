use Rattle.std.proofs.Common.{◌≡◌, take, map}
use Rattle.lattice.specs.Sizes.{size_of}
use Rattle.view_choice.specs.Costs.{sized}
use Rattle.view_choice.proofs.costs.all_candidates.Given as goal

abbrev pub invariant-loop-view : goal.invariant-loop-view
invariant-loop-view l = l.all.items ≡ map (sized (size_of l.rows l.counts)) (take l.view-index l.views)
