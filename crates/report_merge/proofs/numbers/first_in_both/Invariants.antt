use Rattle.std.proofs.Common.{◌≡◌, ℕ, ◌<◌, false, get_or}
use Rattle.report_merge.proofs.NumbersLemmas.{is_in}
use Rattle.report_merge.proofs.numbers.first_in_both.Given as goal

abbrev pub invariant-loop-number : goal.invariant-loop-number
invariant-loop-number l = (k : ℕ) → k < l.number-index → is_in l.others (get_or l.ones k 0) ≡ false
