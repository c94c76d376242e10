use Rattle.std.proofs.Common.{◌≡◌, take}
use Rattle.group_tallies.specs.Columns.{tallies_at}
use Rattle.group_tallies.specs.Tallies.{values_of}
use Rattle.group_tallies.proofs.columns.values_of.Given as goal

abbrev pub invariant-loop-i : goal.invariant-loop-i
invariant-loop-i l = l.values.items ≡ take l.i (values_of l.aggs (tallies_at l.columns l.slot))
