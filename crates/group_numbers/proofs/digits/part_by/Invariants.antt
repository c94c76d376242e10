use Rattle.std.proofs.Common.{◌≡◌, take}
use Rattle.group_numbers.specs.Parts.{part_by}
use Rattle.group_numbers.proofs.digits.part_by.Given as goal

abbrev pub invariant-loop-digit : goal.invariant-loop-digit
invariant-loop-digit l = l.part ≡ part_by l.dims l.place (take l.digit-index l.digits)
