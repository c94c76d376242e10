-- A batch that a session is about to put. Our own.
use Rattle.std.specs.Prelude.{◌≡◌, ◌⊎◌, ℕ, List}
use Rattle.sector_device.specs.declared.device.Sectors.{Ghosts}
use Rattle.cube_model.specs.declared.rows.LineOrder.{LineOrder}
use Rattle.object_store.specs.Content.{Content}
use Rattle.object_store.specs.Disk.{Leaves}
use Rattle.warehouse_objects.specs.Facts.{AdmitsBatch}
use Rattle.warehouse_objects.specs.Warehouse.{Warehouse, loaded}
use Rattle.warehouse_objects.specs.Represents.{Represents, root_of}
use Rattle.warehouse.specs.Prepared.{AreMore, IsPrepared}
use Rattle.warehouse.specs.Session.{IsAt, device_of, disk_of}
use Rattle.warehouse.specs.declared.prepared.Prepared.{Prepared}
use Rattle.warehouse.specs.declared.session.Session.{Session}

-- A session represents a warehouse, and an admissible batch was made ready for it. No device call was made for that
pub record BatchIsReady {D : Type 0} (g : Ghosts D) (session : Session D g) (w : Warehouse) (number : ℕ)
    (rows : List LineOrder) (prepared : Prepared) : Type 0 where
  pub at : IsAt g session w
  pub prepared_is : IsPrepared session.root number rows prepared
  pub admissible : g.keeps_word (device_of session) → AdmitsBatch w number rows
      × (prepared.root ≡ root_of (loaded w rows)) × AreMore w rows prepared.more
  pub still : Leaves (disk_of g session) (disk_of g session) (λ c. Represents c w)

-- what a crash within its submit may leave: the warehouse as it was, or with the batch if that is admissible
abbrev pub WithOrWithout : Warehouse → ℕ → List LineOrder → Content → Type 0
WithOrWithout w number rows c = Represents c w ⊎ (AdmitsBatch w number rows × Represents c (loaded w rows))
