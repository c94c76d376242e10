use Rattle.std.proofs.Common.{arith, inl, inr}
use Rattle.std.proofs.lemmas.Bool.{cases_lt}
use Rattle.cuboid_upkeep.proofs.Unwanted.{past_all}
use Rattle.cuboid_upkeep.proofs.member_parts.MemberParts.next_code.Goals as goal

pub returns-clause-none : goal.returns-clause-none
returns-clause-none c = λ code from below.
    let parts = c.args.self.now in
    elim (cases_lt code c.loop-code.code) [
      | inl before ↦ c.loop-code.invariant code from before
      | inr past ↦ past_all parts code
          (omega (arith, past, below, c.loop-code-test.false, c.min-end.ensures, c.len.ensures, c.from.ensures)) below
    ]
