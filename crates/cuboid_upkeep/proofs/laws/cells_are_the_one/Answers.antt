use Rattle.cuboid_upkeep.proofs.LawsLemmas.{cells_are_the_one}
use Rattle.cuboid_upkeep.proofs.laws.cells_are_the_one.Goals as goal

pub returns : goal.returns
returns c = cells_are_the_one
