use Rattle.cuboid_upkeep.proofs.Modes.{they_still_represent}
use Rattle.cuboid_upkeep.proofs.laws.modes_are_added_after.Goals as goal

pub returns : goal.returns
returns c = they_still_represent
