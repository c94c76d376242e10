use Rattle.warehouse_jobs.proofs.Added.{is_evaluated}
use Rattle.warehouse_jobs.proofs.laws.loaded_is_evaluated.Goals as goal

pub returns : goal.returns
returns g c = is_evaluated _ g.D.Sectors
