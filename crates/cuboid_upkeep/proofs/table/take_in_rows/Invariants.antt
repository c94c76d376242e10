use Rattle.cuboid_upkeep.specs.Slots.{IsTaken}
use Rattle.cuboid_upkeep.proofs.table.take_in_rows.Given as goal

abbrev pub invariant-loop-place : goal.invariant-loop-place
invariant-loop-place g l = IsTaken l.dims l.fn.view l.members (g.F.FactRows.rows l.rows) l.place l.fn.slots.items
    l.slots.items
