use Rattle.std.proofs.Common.{◌∙◌, sym, arith}
use Rattle.report_merge.proofs.NumbersLemmas.{all_apart, first_least}
use Rattle.report_merge.proofs.numbers.first_in_both.Goals as goal

pub returns-then-contains-clause-some : goal.returns-then-contains-clause-some
returns-then-contains-clause-some c =
    first_least c.args.ones.now c.args.others.now c.loop-number.number-index c.requires c.loop-number-test.true
    c.loop-number.invariant (sym c.contains.ensures.value ∙ c.if-contains.true)

pub returns-clause-none : goal.returns-clause-none
returns-clause-none c =
    all_apart c.args.ones.now c.args.others.now
    (λ k h. c.loop-number.invariant k (omega (arith, h, c.loop-number-test.false)))
