use Rattle.warehouse_objects.proofs.ModesRead.{modes_one}
use Rattle.warehouse_objects.proofs.laws.modes_are_one.Goals as goal

pub returns : goal.returns
returns c content w modes represents has are = modes_one content w modes represents has are
