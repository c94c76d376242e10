use Rattle.std.proofs.Common.{◌≡◌, take}
use Rattle.group_numbers.proofs.copies.copied_conditions.Given as goal

abbrev pub invariant-loop-condition : goal.invariant-loop-condition
invariant-loop-condition l = l.copies.items ≡ take l.condition-index l.conditions
