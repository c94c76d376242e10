use Rattle.std.proofs.Common.{◌-◌, arith, inl, inr}
use Rattle.group_numbers.proofs.Filtering.{marked}
use Rattle.group_numbers.proofs.filter.mark.Goals as goal

pub returns-then-at-len : goal.returns-then-at-len
returns-then-at-len c = λ k e.
    elim (marked c.args.passes.now.items (c.args.key - c.args.first) k c.args.pass e) [
      | inl here ↦ inl (omega (arith, here.0, c.if-key-first.false), here.1)
      | inr other ↦ inr other
    ]
