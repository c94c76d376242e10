use Rattle.std.proofs.Common.{◌≡◌, take}
use Rattle.group_numbers.specs.Numbers.{group_key_at}
use Rattle.group_numbers.proofs.over.GroupNumbersOver.key.Given as goal

abbrev pub invariant-loop-i : goal.invariant-loop-i
invariant-loop-i l = l.key.items ≡ take l.i (group_key_at l.self.dimensions l.self.query.columns l.number)
