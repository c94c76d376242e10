use Rattle.std.proofs.Common.{take}
use Rattle.group_numbers.specs.Numbers.{group_count}
use Rattle.group_tallies.specs.Slots.{entries_of, Cover, Grow}
use Rattle.group_tallies.specs.FoldInvariant.{AreGroupSlots}
use Rattle.cube_query.proofs.group_slots.group_slots_of.Given as goal

abbrev pub invariant-loop-place : goal.invariant-loop-place
invariant-loop-place g l =
    AreGroupSlots l.grouping.dimensions l.grouping.query (entries_of l.slots) (take l.place (g.F.FactRows.rows l.rows))
    l.group_slots.items
    × Cover (group_count l.grouping.dimensions l.grouping.query.columns) l.slots
    × Grow (group_count l.grouping.dimensions l.grouping.query.columns) (entries_of l.initial.slots)
    (entries_of l.slots)
