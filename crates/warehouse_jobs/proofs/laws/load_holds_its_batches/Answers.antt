use Rattle.warehouse_jobs.proofs.Added.{holds_its_batches}
use Rattle.warehouse_jobs.proofs.laws.load_holds_its_batches.Goals as goal

pub returns : goal.returns
returns g c = holds_its_batches _ g.D.Sectors
