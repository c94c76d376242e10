use Rattle.cuboid_upkeep.proofs.LawsLemmas.{rows_have_cells}
use Rattle.cuboid_upkeep.proofs.laws.rows_have_cells.Goals as goal

pub returns : goal.returns
returns c = rows_have_cells
