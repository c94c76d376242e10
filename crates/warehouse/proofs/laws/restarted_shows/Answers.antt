use Rattle.warehouse.proofs.LawsLemmas.{shows_it}
use Rattle.warehouse.proofs.laws.restarted_shows.Goals as goal

pub returns : goal.returns
returns g c = shows_it g.D.Sectors
