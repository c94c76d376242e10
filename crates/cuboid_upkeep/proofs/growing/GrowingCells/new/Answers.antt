use Rattle.cuboid_upkeep.proofs.growing.GrowingCells.new.Goals as goal

pub returns-clause-over : goal.returns-clause-over
returns-clause-over c = c.in_ok-table.ensures.over c.args.dims.now c.in_ok-members.ensures
