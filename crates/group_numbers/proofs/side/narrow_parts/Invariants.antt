use Rattle.std.proofs.Common.{◌≡◌, map, take}
use Rattle.group_numbers.specs.Parts.{given_at}
use Rattle.group_numbers.proofs.side.narrow_parts.Given as goal

abbrev pub invariant-loop-place : goal.invariant-loop-place
invariant-loop-place l = l.parts.items ≡ map (given_at l.dims l.query l.axis) (take l.place-index l.places)
