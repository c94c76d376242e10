use Rattle.std.proofs.Common.{◌≤◌}
use Rattle.std.specs.List.{AllWithin}
use Rattle.dimensions.proofs.entries.span.Given as goal

abbrev pub invariant-loop-key : goal.invariant-loop-key
invariant-loop-key l = (l.first ≤ l.last) × AllWithin (λ key. (l.first ≤ key) × (key ≤ l.last)) l.keys 0 l.key-index
