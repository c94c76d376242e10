use Rattle.std.proofs.Common.{◌≡◌, ℕ, [], take}
use Rattle.group_tallies.specs.Columns.{tallies_at}
use Rattle.group_tallies.specs.Tallies.{tallies_of}
use Rattle.group_tallies.proofs.columns.no_columns.Given as goal

abbrev pub invariant-loop-agg : goal.invariant-loop-agg
invariant-loop-agg l = (slot : ℕ) → tallies_at l.columns.items slot ≡ tallies_of (take l._agg-index l.aggs) []
