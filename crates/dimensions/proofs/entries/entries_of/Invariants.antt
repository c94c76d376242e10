use Rattle.std.proofs.Common.{◌≡◌, ◌<◌, ◌+◌, ◌==◌, ℕ, position, take, vec_len, slice_index}
use Rattle.dimensions.specs.RowIndexes.{entry_row}
use Rattle.dimensions.proofs.entries.entries_of.Given as goal

abbrev pub invariant-loop-row : goal.invariant-loop-row
invariant-loop-row l = (vec_len l.entries ≡ l.width)
    × ((k : ℕ) → k < l.width
    → entry_row (slice_index l.entries.items k) ≡ position (λ other. other == l.first + k) (take l.row l.keys))
