use Rattle.std.proofs.Common.{arith}
use Rattle.view_choice.proofs.Steps.{no_costed, lower_next}
use Rattle.view_choice.proofs.costs.lower.Goals as goal

-- one cost more
pub loop-other-preserved : goal.loop-other-preserved
loop-other-preserved c = lower_next c.args.view c.args.size c.args.all.now c.loop-other.all c.loop-other.other-index
    no_costed c.lowered.result
    (omega arith) (omega arith) c.loop-other.invariant c.lowered.ensures
