use Rattle.cuboid_cells.proofs.CallerLemmas.{IsRun-one}
use Rattle.cuboid_cells.proofs.laws.bytes_are_one_run.Goals as goal

pub returns : goal.returns
returns c = IsRun-one
