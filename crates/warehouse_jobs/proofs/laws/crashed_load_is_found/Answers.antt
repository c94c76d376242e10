use Rattle.warehouse_jobs.proofs.Added.{stopped_load}
use Rattle.warehouse_jobs.proofs.laws.crashed_load_is_found.Goals as goal

pub returns : goal.returns
returns g c = stopped_load _ g.D.Sectors c.restarted_shows.ensures
