use Rattle.std.proofs.Common.{take}
use Rattle.std.specs.List.{AllByRecursion}
use Rattle.partial_reports.specs.Readable.{IsWholeNumber}
use Rattle.partial_reports.proofs.readable.are_whole.Given as goal

abbrev pub invariant-loop-value : goal.invariant-loop-value
invariant-loop-value l = AllByRecursion IsWholeNumber (take l.value-index l.values)
