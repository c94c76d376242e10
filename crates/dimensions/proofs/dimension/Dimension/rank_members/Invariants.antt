use Rattle.std.proofs.Common.{◌≡◌, ◌<◌, ◌≤◌, ℕ, vec_len}
use Rattle.dimensions.specs.Columns.{ranked}
use Rattle.dimensions.specs.Dimensions.{column_at}
use Rattle.dimensions.proofs.dimension.Dimension.rank_members.Given as goal

abbrev pub invariant-loop-i : goal.invariant-loop-i
invariant-loop-i l = (l.self.keys ≡ l.fn.self.keys) × (vec_len l.self.columns ≡ vec_len l.fn.self.columns)
    × ((k : ℕ) → k < l.i → column_at l.self k ≡ ranked (column_at l.fn.self k))
    × ((k : ℕ) → l.i ≤ k → column_at l.self k ≡ column_at l.fn.self k)
