use Rattle.cuboid_upkeep.proofs.LawsLemmas.{more_rows_have_no_fewer_cells}
use Rattle.cuboid_upkeep.proofs.laws.more_rows_have_no_fewer_cells.Goals as goal

pub returns : goal.returns
returns c = more_rows_have_no_fewer_cells
