-- What a call that only reads a store leaves of it, and what its answers are about. Our own.
use Rattle.std.specs.Prelude.{◌≡◌, ◌⊎◌, ℕ, List, IsErrOf, Result}
use Rattle.cube_model.specs.declared.fault.Fault.{Fault}
use Rattle.cube_model.specs.declared.fault.Fault.TheVariants.{BadLayout, Device, Memory}
use Rattle.cube_model.specs.declared.rows.DimRows.{DimRows}
use Rattle.object_store.specs.declared.store.Store.{Store}
use Rattle.object_store.specs.Disk.{Leaves}
use Rattle.object_store.specs.Store.{Breaks, IsStill, content_of, device_of, disk_of}
use Rattle.sector_device.specs.declared.device.Sectors.{Ghosts}
use Rattle.warehouse_root.specs.Root.{PlainRoot}
use Rattle.warehouse_objects.specs.Represents.{AreItsMembers, IsLaidOut, Represents, root_of}
use Rattle.warehouse_objects.specs.Warehouse.{Warehouse}

-- the content stays, at each moment, and so does the store, unless the device fails
pub record ReadsOnly {D A : Type 0} (g : Ghosts D) (old new : Store D g) (result : Result A Fault) : Type 0 where
  pub leaves : Leaves (disk_of g old) (disk_of g new) (λ c. c ≡ content_of g old)
  pub stays : (IsErrOf result Device → ⊥) → IsStill g old new
  pub device : IsErrOf result Device → Breaks g old new

-- with which faults a call that reads a store is refused
abbrev pub EndsReading : Fault → Type 0
EndsReading fault = (fault ≡ Memory) ⊎ ((fault ≡ Device) ⊎ (fault ≡ BadLayout))

-- what is so of the warehouse that a store held, unless its device has broken its word
abbrev pub ForHeld : {D : Type 0} (g : Ghosts D) → Store D g → Store D g → (Warehouse → Type 0) → Type 0
ForHeld g old new P = g.keeps_word (device_of new) → (w : Warehouse) → Represents (content_of g old) w → P w

-- the same, given that a root is the warehouse's
abbrev pub ForHeldOfRoot : {D : Type 0} (g : Ghosts D) → Store D g → Store D g → PlainRoot → (Warehouse → Type 0)
    → Type 0
ForHeldOfRoot g old new root P = ForHeld g old new (λ w. root ≡ root_of w → P w)

-- the same, given that dimensions and ship modes are its own too
abbrev pub ForHeldWith : {D : Type 0} (g : Ghosts D) → Store D g → Store D g → PlainRoot → DimRows → List (List ℕ)
    → (Warehouse → Type 0) → Type 0
ForHeldWith g old new root dimensions ship_modes P =
    ForHeldOfRoot g old new root (λ w. AreItsMembers w dimensions ship_modes → P w)

-- the same, where of its cuboids only their layout is known
abbrev pub ForLaidWith : {D : Type 0} (g : Ghosts D) → Store D g → Store D g → PlainRoot → DimRows → List (List ℕ)
    → (Warehouse → Type 0) → Type 0
ForLaidWith g old new root dimensions ship_modes P = g.keeps_word (device_of new) → (w : Warehouse)
    → IsLaidOut (content_of g old) w → root ≡ root_of w → AreItsMembers w dimensions ship_modes → P w

-- the store held no warehouse of this root, these dimensions and these ship modes, or its device has broken its word
abbrev pub HoldsNoWarehouse : {D : Type 0} (g : Ghosts D) → Store D g → Store D g → PlainRoot → DimRows → List (List ℕ)
    → Type 0
HoldsNoWarehouse g old new root dimensions ship_modes = ForHeldWith g old new root dimensions ship_modes (λ w. ⊥)
