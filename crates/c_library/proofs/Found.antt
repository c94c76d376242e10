-- The facts that an opening finds.
use Rattle.std.proofs.Common.{◌≡◌, ⊎_elim, None}
use Rattle.std.proofs.lemmas.Option.{none-some}
use Rattle.warehouse_objects.specs.Facts.{Facts, facts_in}
use Rattle.warehouse_objects.specs.Warehouse.{Warehouse}
use Rattle.warehouse.specs.Found.{MayBeFound}

-- where no change was running
pub same_facts : (facts : Facts) (w : Warehouse) → MayBeFound facts None w → facts_in w ≡ facts
same_facts facts w may = ⊎_elim (λ same. same) (λ more. absurd (none-some more.0 more.1)) may
