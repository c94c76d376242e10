use Rattle.std.proofs.Common.{◌≡◌, ◌<◌, ℕ, false, codes}
use Rattle.std.specs.Str.{bytes_eq}
use Rattle.dimensions.specs.TextRows.{text_in}
use Rattle.dimensions.proofs.row.names_all.Given as goal

abbrev pub invariant-loop-i : goal.invariant-loop-i
invariant-loop-i g l = (k : ℕ) → k < l.i → bytes_eq (codes "ALL") (text_in k (g.R.DimensionRow.shown l.row)) ≡ false
