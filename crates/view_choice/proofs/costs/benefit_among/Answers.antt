use Rattle.std.proofs.Common.{arith}
use Rattle.view_choice.proofs.Steps.{no_costed, saved_within}
use Rattle.view_choice.proofs.costs.benefit_among.Goals as goal

-- the sum is within that of the costs
pub overflow_add-total : goal.overflow_add-total
overflow_add-total c =
    omega (
      arith,
      c.requires,
      c.loop-other.invariant,
      c.saved_by-total.ensures,
      saved_within c.args.view c.args.size c.args.all.now c.loop-other.other-index no_costed c.loop-other-test.true,
    )
