use Rattle.std.proofs.Common.{◌≡◌, ◌++◌, take}
use Rattle.dimension_objects.specs.Spelled.{keys_spelling}
use Rattle.dimension_objects.proofs.encoding.push_keys.Given as goal

abbrev pub invariant-loop-key : goal.invariant-loop-key
invariant-loop-key l = l.out.items ≡ l.fn.out.items ++ keys_spelling (take l.key-index l.keys)
