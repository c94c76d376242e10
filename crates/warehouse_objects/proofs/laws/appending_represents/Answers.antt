use Rattle.warehouse_objects.proofs.Kept.{represents_appended}
use Rattle.warehouse_objects.proofs.laws.appending_represents.Goals as goal

pub returns : goal.returns
returns c content w old new run represents may more = represents_appended content w old new represents may run more
