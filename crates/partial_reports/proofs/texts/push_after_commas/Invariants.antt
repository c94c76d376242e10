use Rattle.std.proofs.Common.{◌≡◌, ◌++◌, take}
use Rattle.std.specs.List.{flat_map}
use Rattle.partial_reports.specs.Head.{after_comma}
use Rattle.partial_reports.proofs.texts.push_after_commas.Given as goal

abbrev pub invariant-loop-number : goal.invariant-loop-number
invariant-loop-number l = l.out.items ≡ l.initial.out.items ++ flat_map after_comma (take l.number-index l.numbers)
