-- What a call promises that only reads, and a query over the first batches.
use Rattle.std.specs.Prelude.{◌≡◌, ◌≢◌, ℕ, ◌<◌, false, length}
use Rattle.sector_device.specs.declared.device.Sectors.{Ghosts}
use Rattle.cube_model.specs.declared.fault.Fault.{Fault}
use Rattle.cube_model.specs.declared.fault.Fault.TheVariants.{BadQuery, Device, NoSuchPrefix}
use Rattle.object_store.specs.Disk.{Leaves}
use Rattle.warehouse_objects.specs.Represents.{Represents}
use Rattle.warehouse_objects.specs.Warehouse.{Warehouse}
use Rattle.warehouse.specs.declared.session.Session.{Session}
use Rattle.warehouse.specs.Session.{AskingRefuses, CallsDevice, ForItsWarehouse, IsAt, KeepsContent, disk_of}
use Rattle.warehouse.specs.Session.{has_failed}

-- What a call leaves of a session that it only reads. `refuses` says with which faults the call was refused.
pub record OnlyReads {D : Type 0} (g : Ghosts D) (refuses : Fault → Type 0) (old new : Session D g) : Type 0 where
  -- the warehouse stays as it is, at each moment
  pub leaves : (w : Warehouse) → IsAt g old w → Leaves (disk_of g old) (disk_of g new) (λ c. Represents c w)
  pub stays : (refuses Device → ⊥) → (w : Warehouse) → IsAt g old w → IsAt g new w
  -- nothing was put on the device
  pub reads : (refuses Device → ⊥) → KeepsContent g old new
  pub calls : CallsDevice g refuses old new

-- With which faults a query is refused, and when. P says that it is proper.
pub record RefusesQuery {D : Type 0} (g : Ghosts D) (P : Type 0) (as_of : ℕ) (refuses : Fault → Type 0)
    (old new : Session D g) : Type 0 where
  pub improper : has_failed old ≡ false → (P → ⊥) → refuses BadQuery
  pub beyond : ForItsWarehouse g old new (λ w. P → length w.batches < as_of → refuses NoSuchPrefix)
  pub causes : (fault : Fault) → refuses fault → fault ≢ Device
      → ForItsWarehouse g old new (λ w. AskingRefuses P w as_of fault)
