use Rattle.std.proofs.Common.{◌≡◌, ℕ, take}
use Rattle.group_tallies.specs.Columns.{tallies_at}
use Rattle.group_tallies.proofs.columns.copy_columns.Given as goal

abbrev pub invariant-loop-i : goal.invariant-loop-i
invariant-loop-i l = (slot : ℕ) → tallies_at l.copy.items slot ≡ tallies_at (take l.i l.columns) slot
