use Rattle.warehouse_objects.proofs.Contents.{represents_created}
use Rattle.warehouse_objects.proofs.laws.creating_represents.Goals as goal

pub returns : goal.returns
returns c = represents_created
