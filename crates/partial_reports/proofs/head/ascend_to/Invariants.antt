use Rattle.std.proofs.Common.{◌≡◌, drop}
use Rattle.partial_reports.specs.Head.{ascend_between}
use Rattle.partial_reports.proofs.head.ascend_to.Given as goal

abbrev pub invariant-loop-number : goal.invariant-loop-number
invariant-loop-number l =
    ascend_between 0 l.high l.numbers ≡ ascend_between l.low l.high (drop l.number-index l.numbers)
