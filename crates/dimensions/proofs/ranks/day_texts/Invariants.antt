use Rattle.std.proofs.Common.{◌≡◌, map, take}
use Rattle.std.specs.Fmt.{decimal}
use Rattle.dimensions.proofs.ranks.day_texts.Given as goal

abbrev pub invariant-loop-key : goal.invariant-loop-key
invariant-loop-key l = l.texts.items ≡ map decimal (take l.key-index l.keys)
