use Rattle.std.proofs.Common.{take}
use Rattle.planner.specs.Plans.{IsCheapest}
use Rattle.planner.proofs.cheapest.plan.Given as goal

-- of the cuboids so far
abbrev pub invariant-loop-one : goal.invariant-loop-one
invariant-loop-one l = IsCheapest l.query (take l.one-index l.stored) l.batch_rows l.as_of l.best.plan l.best.cost
