use Rattle.cuboid_upkeep.proofs.LawsLemmas.{one_group}
use Rattle.cuboid_upkeep.proofs.laws.one_key_one_group.Goals as goal

pub returns : goal.returns
returns c = one_group
