use Rattle.cuboid_upkeep.proofs.LawsLemmas.{merges_represent_both}
use Rattle.cuboid_upkeep.proofs.laws.merges_represent_both.Goals as goal

pub returns : goal.returns
returns c = merges_represent_both
