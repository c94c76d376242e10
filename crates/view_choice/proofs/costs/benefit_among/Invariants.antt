use Rattle.std.proofs.Common.{◌≡◌, take}
use Rattle.std.specs.List.{sum_by}
use Rattle.view_choice.specs.Costs.{saved_by}
use Rattle.view_choice.proofs.costs.benefit_among.Given as goal

abbrev pub invariant-loop-other : goal.invariant-loop-other
invariant-loop-other l = l.total ≡ sum_by (saved_by l.view l.size) (take l.other-index l.all)
