use Rattle.std.proofs.Common.{◌≡◌, ◌++◌, ◌-◌}
use Rattle.group_tallies.specs.Slots.{numbers_from}
use Rattle.group_tallies.proofs.slots.direct_entries.Given as goal

abbrev pub invariant-loop-number : goal.invariant-loop-number
invariant-loop-number l = l.entries.items ++ numbers_from l.number (l.count - l.number) ≡ numbers_from 0 l.count
