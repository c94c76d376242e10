use Rattle.std.proofs.Common.{◌≡◌, take, drop, map, ◌++◌}
use Rattle.view_choice.specs.Costs.{lowered}
use Rattle.view_choice.proofs.costs.lower.Given as goal

abbrev pub invariant-loop-other : goal.invariant-loop-other
invariant-loop-other l = l.all ≡ map (lowered l.view l.size) (take l.other-index l.initial.all)
    ++ drop l.other-index l.initial.all
