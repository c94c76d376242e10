use Rattle.std.proofs.Common.{refl, vec_len}
use Rattle.cuboid_upkeep.proofs.Tables.{resized_free, resized_slots}
use Rattle.cuboid_upkeep.proofs.table.free_slots.Goals as goal

pub returns-clause-free : goal.returns-clause-free
returns-clause-free c =
    resized_free c.args.size (vec_len c.new-slots.result) c.new-slots.result.items c.resize.new.self.items _
    c.new-slots.ensures.len c.new-slots.ensures.items c.in_ok-resize.ensures.items refl

pub returns-clause-slots : goal.returns-clause-slots
returns-clause-slots c =
    resized_slots c.args.size (vec_len c.new-slots.result) c.new-slots.result.items c.resize.new.self.items _
    c.new-slots.ensures.len c.new-slots.ensures.items c.in_ok-resize.ensures.items refl
