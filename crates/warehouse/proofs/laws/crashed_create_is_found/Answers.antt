use Rattle.warehouse.proofs.LawsLemmas.{create_again}
use Rattle.warehouse.proofs.laws.crashed_create_is_found.Goals as goal

pub returns : goal.returns
returns g c = create_again g.D.Sectors
