use Rattle.std.proofs.Common.{◌≡◌, ◌≤◌, ◌++◌, drop, true}
use Rattle.std.specs.List.{range_with_len}
use Rattle.partial_reports.specs.Head.{ascend_between}
use Rattle.report_merge.proofs.numbers.first_missing.Given as goal

abbrev pub invariant-loop-number : goal.invariant-loop-number
invariant-loop-number l = record {
  are_in : l.numbers ≡ range_with_len 1 l.low ++ drop l.number-index l.numbers;
  ascend : ascend_between l.low l.parts (drop l.number-index l.numbers) ≡ true;
  within : l.low ≤ l.parts;
}
