use Rattle.warehouse_objects.proofs.Contents.{represents_loaded}
use Rattle.warehouse_objects.proofs.laws.loading_represents.Goals as goal

pub returns : goal.returns
returns c = represents_loaded
