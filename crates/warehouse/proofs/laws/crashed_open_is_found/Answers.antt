use Rattle.warehouse.proofs.LawsLemmas.{open_again}
use Rattle.warehouse.proofs.laws.crashed_open_is_found.Goals as goal

pub returns : goal.returns
returns g c = open_again g.D.Sectors
