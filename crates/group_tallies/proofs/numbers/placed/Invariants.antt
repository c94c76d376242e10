use Rattle.std.proofs.Common.{◌≡◌, map, nat_eq, take}
use Rattle.std.specs.List.{position_or_len}
use Rattle.group_tallies.proofs.numbers.placed.Given as goal

abbrev pub invariant-loop-place : goal.invariant-loop-place
invariant-loop-place l = l.entries.items ≡ map (λ number. (number, position_or_len (nat_eq number) l.numbers))
    (take l.place l.numbers)
