use Rattle.cuboid_upkeep.proofs.Slots.{in_use}
use Rattle.cuboid_upkeep.proofs.TableLemmas.{key_there}
use Rattle.cuboid_upkeep.proofs.table.key_for.Goals as goal

pub returns-then-slot-ge1 : goal.returns-then-slot-ge1
returns-then-slot-ge1 g c =
    key_there c.args.dims.now c.args.view c.args.members.now c.requires.no_modes _ c.args.number c.args.slot.now
    c.requires.number (c.requires.slot (in_use c.args.slot.now c.if-slot-ge1.true))
