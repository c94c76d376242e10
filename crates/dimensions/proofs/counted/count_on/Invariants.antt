use Rattle.std.proofs.Common.{◌≡◌, ◌<◌, ◌+◌, ℕ, true, slice_index}
use Rattle.dimensions.proofs.counted.count_on.Given as goal

abbrev pub invariant-loop-row : goal.invariant-loop-row
invariant-loop-row l = l.fine ≡ true → (k : ℕ) → k < l.row → slice_index l.keys k ≡ l.first + k
