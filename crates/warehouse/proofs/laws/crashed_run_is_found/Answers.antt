use Rattle.warehouse.proofs.LawsLemmas.{stopped_run}
use Rattle.warehouse.proofs.laws.crashed_run_is_found.Goals as goal

pub returns : goal.returns
returns g c = stopped_run g.D.Sectors g.met.D.Sectors.only_now
