use Rattle.cuboid_upkeep.proofs.LawsLemmas.{rows_in_range_fit}
use Rattle.cuboid_upkeep.proofs.laws.rows_in_range_fit.Goals as goal

pub returns : goal.returns
returns c = rows_in_range_fit
