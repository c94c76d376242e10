use Rattle.std.proofs.Common.{◌≡◌, ◌<◌, ◌==◌, ℕ, slice_index}
use Rattle.std.specs.List.{position_or_len}
use Rattle.dimensions.proofs.key_rows.Lookup.tells_apart.Given as goal

abbrev pub invariant-loop-row : goal.invariant-loop-row
invariant-loop-row l = (k : ℕ) → k < l.row → position_or_len (λ other. other == slice_index l.keys k) l.keys ≡ k
