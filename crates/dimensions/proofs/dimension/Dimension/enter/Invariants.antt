use Rattle.std.proofs.Common.{◌≡◌, ◌<◌, ◌≤◌, ℕ, true, vec_len}
use Rattle.dimensions.specs.Dimensions.{column_at, EntersAt}
use Rattle.dimensions.proofs.dimension.Dimension.enter.Given as goal

abbrev pub invariant-loop-i : goal.invariant-loop-i
invariant-loop-i g l = (l.self.keys ≡ l.fn.self.keys) × (vec_len l.self.columns ≡ vec_len l.fn.self.columns)
    × ((k : ℕ) → k < l.i → EntersAt l.fn.self (g.R.DimensionRow.shown l.row) l.codes k true (column_at l.self k))
    × ((k : ℕ) → l.i ≤ k → column_at l.self k ≡ column_at l.fn.self k)
