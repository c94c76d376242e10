use Rattle.warehouse_jobs.proofs.Added.{adds_the_others}
use Rattle.warehouse_jobs.proofs.laws.load_adds_the_others.Goals as goal

pub returns : goal.returns
returns c = adds_the_others
