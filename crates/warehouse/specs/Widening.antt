-- Dimension rows that a session is about to add. Our own.
use Rattle.std.specs.Prelude.{◌≡◌, ◌⊎◌, ℕ, None, List, map}
use Rattle.sector_device.specs.declared.device.Sectors.{Ghosts}
use Rattle.cube_model.specs.declared.rows.DimRows.{DimRows}
use Rattle.dimensions.specs.Added.{addition_cause, joined}
use Rattle.stored_rows.specs.Added.{widened, widening_puts}
use Rattle.object_store.specs.Commit.{ArePuts}
use Rattle.object_store.specs.Content.{Content}
use Rattle.object_store.specs.Disk.{Leaves}
use Rattle.warehouse_root.specs.Root.{IsRoot, PlainRoot, root_with_addition}
use Rattle.warehouse_objects.specs.Facts.{AdmitsRows}
use Rattle.dimensions.specs.Shown.{AreStorable}
use Rattle.warehouse_objects.specs.Warehouse.{Warehouse}
use Rattle.warehouse_objects.specs.Represents.{Represents}
use Rattle.warehouse.specs.Loaded.{Agrees}
use Rattle.warehouse.specs.Session.{IsAt, device_of, disk_of}
use Rattle.warehouse.specs.declared.session.Session.{Session}
use Rattle.warehouse.specs.declared.widening.NewObject.{NewObject}
use Rattle.warehouse.specs.declared.widening.Widening.{Widening}

-- objects, each as its id and its bytes
abbrev pub shown_puts : List NewObject → List (ℕ × List ℕ)
shown_puts objects = map (λ object. (object.id, object.bytes.items)) objects

-- dimensions with more rows after their own, and what a commit of them puts, with a root that counts the addition
pub record IsWidening (rows : DimRows) (root : PlainRoot) (more : DimRows) (wider : Widening) : Type 0 where
  pub dims_are : wider.dims.value ≡ joined rows more
  pub storable : AreStorable (joined rows more)
  pub allowed : addition_cause rows more ≡ None
  pub root_is : wider.root ≡ root_with_addition root
  pub spelled : IsRoot wider.root_bytes.items wider.root
  pub objects_are : shown_puts wider.objects.items ≡ widening_puts rows more
  pub puts : ArePuts (widening_puts rows more)

-- A session represents a warehouse, and an admissible addition was made ready for it. No device call was made for that
pub record IsReadyToWiden {D : Type 0} (g : Ghosts D) (session : Session D g) (w : Warehouse) (number : ℕ)
    (more : DimRows) (wider : Widening) : Type 0 where
  pub at : IsAt g session w
  pub widening_is : IsWidening session.dims.value session.root more wider
  pub admissible : g.keeps_word (device_of session) → AdmitsRows w number more
      × Agrees w session.dims.value session.root
  pub still : Leaves (disk_of g session) (disk_of g session) (λ c. Represents c w)

-- what a crash within its commit may leave: the warehouse as it was, or with the rows if they may be added
abbrev pub WidenedOrNot : Warehouse → ℕ → DimRows → Content → Type 0
WidenedOrNot w number more c = Represents c w ⊎ (AdmitsRows w number more × Represents c (widened w more))
