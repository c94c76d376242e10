use Rattle.warehouse_objects.proofs.Kept.{represents_merged}
use Rattle.warehouse_objects.proofs.laws.merging_represents.Goals as goal

pub returns : goal.returns
returns c content w old new run represents may one = represents_merged content w old new represents may run one
