use Rattle.warehouse_objects.proofs.OneWarehouse.{one_warehouse}
use Rattle.warehouse_objects.proofs.laws.content_is_one_warehouse.Goals as goal

pub returns : goal.returns
returns c = one_warehouse
