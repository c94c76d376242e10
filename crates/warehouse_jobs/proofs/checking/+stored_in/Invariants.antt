use Rattle.std.proofs.Common.{length}
use Rattle.warehouse_jobs.proofs.checking.+stored_in.Given as goal

abbrev pub decreases-stored_in : goal.decreases-stored_in
decreases-stored_in l = length l.places.now
