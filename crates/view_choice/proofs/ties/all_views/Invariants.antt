use Rattle.std.proofs.Common.{◌≡◌, take}
use Rattle.lattice.specs.Sizes.{lattice_of}
use Rattle.view_choice.proofs.ties.all_views.Given as goal

abbrev pub invariant-loop-index : goal.invariant-loop-index
invariant-loop-index l = l.views.items ≡ take l.index (lattice_of l.counts)
