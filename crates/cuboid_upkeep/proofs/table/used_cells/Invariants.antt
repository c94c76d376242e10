use Rattle.std.proofs.Common.{◌≡◌, take}
use Rattle.cuboid_upkeep.specs.Slots.{used}
use Rattle.cuboid_upkeep.proofs.table.used_cells.Given as goal

abbrev pub invariant-loop-slot : goal.invariant-loop-slot
invariant-loop-slot l = l.cells.items ≡ used (take l.slot-index l.slots)
