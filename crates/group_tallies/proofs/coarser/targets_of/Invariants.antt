use Rattle.std.proofs.Common.{take}
use Rattle.group_tallies.specs.Coarser.{AreTargets}
use Rattle.group_tallies.specs.Slots.{entries_of, Cover, Grow}
use Rattle.group_numbers.specs.Numbers.{group_count}
use Rattle.group_tallies.proofs.coarser.targets_of.Given as goal

abbrev pub invariant-loop-i : goal.invariant-loop-i
invariant-loop-i l =
    AreTargets l.grouping.dimensions l.grouping.query.columns l.column (entries_of l.slots) (take l.i l.sources)
    l.targets.items
    × Cover (group_count l.grouping.dimensions l.grouping.query.columns) l.slots
    × Grow (group_count l.grouping.dimensions l.grouping.query.columns) (entries_of l.initial.slots)
    (entries_of l.slots)
