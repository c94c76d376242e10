use Rattle.std.proofs.Common.{◌↔◌, take}
use Rattle.std.specs.List.{Contains}
use Rattle.planner.specs.declared.price.Priced.{Priced}
use Rattle.planner.specs.Listed.{HasCheapestFirst}
use Rattle.planner.specs.Plans.{AnswersAt}
use Rattle.planner.proofs.listing.plans.Given as goal

-- the plans over the cuboids so far
abbrev pub invariant-loop-one : goal.invariant-loop-one
invariant-loop-one l = HasCheapestFirst l.query (take l.one-index l.stored) l.batch_rows l.as_of l.plans.items
    × ((one : Priced) → Contains l.plans.items one
    ↔ AnswersAt l.query (take l.one-index l.stored) l.batch_rows l.as_of one.plan one.cost)
