use Rattle.std.proofs.Common.{◌≡◌, ◌∙◌, ◌+◌, ◌++◌, ◌∷◌, true, ap, subst, get_or, drop, List, ℕ, arith}
use Rattle.std.specs.List.{range_with_len}
use Rattle.partial_reports.specs.Head.{ascend_between}
use Rattle.report_merge.proofs.Gaps.{left_from, next, one_more}
use Rattle.report_merge.proofs.numbers.first_missing.Goals as goal

pub loop-number-preserved : goal.loop-number-preserved
loop-number-preserved c =
    let numbers = c.args.numbers.now in
    let place = c.loop-number.number-index in
    let low = c.loop-number.low in
    let number = get_or numbers place 0 in
    let rest = drop (place + 1) numbers in
    let left : drop place numbers ≡ number ∷ rest = left_from numbers place c.loop-number-test.true in
    let is = next low c.args.parts number rest
    (subst (λ (all : List ℕ). ascend_between low c.args.parts all ≡ true) left c.loop-number.invariant.ascend) in
    let up : number ≡ low + 1 = omega (arith, is.above, c.if-number-low-gt1.false) in
    record {
      are_in = one_more numbers rest low number up
          (c.loop-number.invariant.are_in ∙ ap (λ (all : List ℕ). range_with_len 1 low ++ all) left);
      ascend = is.ascend;
      within = is.within;
    }
