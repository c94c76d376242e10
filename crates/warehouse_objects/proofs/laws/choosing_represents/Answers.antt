use Rattle.warehouse_objects.proofs.Chosen.{represents_chosen}
use Rattle.warehouse_objects.proofs.laws.choosing_represents.Goals as goal

pub returns : goal.returns
returns c content w views represents few = represents_chosen content w views represents few
