use Rattle.std.proofs.Common.{◌≡◌, take}
use Rattle.group_tallies.specs.Coarser.{sources_of}
use Rattle.group_tallies.specs.Columns.{tallies_at}
use Rattle.group_tallies.proofs.coarser.sources_of.Given as goal

abbrev pub invariant-loop-i : goal.invariant-loop-i
invariant-loop-i l = l.sources.items ≡ sources_of l.grouping.dimensions l.grouping.query l.column (tallies_at l.columns)
    (take l.i l.entries)
