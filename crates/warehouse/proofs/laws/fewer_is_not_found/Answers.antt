use Rattle.warehouse.proofs.LawsLemmas.{fewer_not_found}
use Rattle.warehouse_objects.proofs.OneWarehouse.{one_warehouse}
use Rattle.warehouse.proofs.laws.fewer_is_not_found.Goals as goal

pub returns : goal.returns
returns g c = fewer_not_found g.D.Sectors one_warehouse
