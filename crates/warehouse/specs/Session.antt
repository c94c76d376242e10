-- What a session shows of itself, and when it represents a warehouse.
use Rattle.std.specs.Prelude.{◌≡◌, ◌↔◌, ◌⊎◌, ℕ, ◌+◌, ◌<◌, ◌≤◌, Bool, true, false, None, Some, length}
use Rattle.std.specs.Prelude.{◌≢◌, List, [], IfErr, IsErrOf, Result}
use Rattle.sector_device.specs.declared.device.Sectors.{Ghosts}
use Rattle.cube_model.specs.declared.fault.Fault.{Fault}
use Rattle.cube_model.specs.declared.fault.Fault.TheVariants.{BadQuery, Device, Failed, Memory, NoSuchPrefix}
use Rattle.cube_model.specs.declared.query.Query.{Query}
use Rattle.cube_model.specs.declared.rows.DimRows.{DimRows}
use Rattle.cube_model.specs.declared.rows.LineOrder.{LineOrder}
use Rattle.cube_model.specs.Proper.{IsProper}
use Rattle.warehouse_root.specs.Root as roots
use Rattle.object_store.specs.Content.{Content}
use Rattle.object_store.specs.Disk.{Disk, AllShow, Leaves}
use Rattle.object_store.specs.Room.{Room}
use Rattle.object_store.specs.Store as stores
use Rattle.stored_rows.specs.Added.{widened, widening_puts}
use Rattle.warehouse_objects.specs.Facts.{AdmitsBatch, AdmitsRows, PassesChecks, number_refusal, refusal_of}
use Rattle.warehouse_objects.specs.Facts.{rows_refusal_of}
use Rattle.warehouse_objects.specs.Warehouse.{Warehouse, loaded}
use Rattle.warehouse_objects.specs.Represents.{Represents, root_of}
use Rattle.warehouse_objects.specs.Lawful.{loading_puts}
use Rattle.warehouse.specs.declared.session.Session.{Session}

module _ {D : Type 0} where
  abbrev pub has_failed : {g : Ghosts D} → Session D g → Bool
  has_failed session = stores.has_failed session.store

  abbrev pub device_of : {g : Ghosts D} → Session D g → D
  device_of session = stores.device_of session.store

  abbrev pub disk_of : (g : Ghosts D) → Session D g → Disk
  disk_of g session = stores.disk_of g session.store

  abbrev pub content_of : (g : Ghosts D) → Session D g → Content
  content_of g session = stores.content_of g session.store

  -- what the first fits of its next commit look at
  abbrev pub room_of : {g : Ghosts D} → Session D g → Room
  room_of session = stores.room_of session.store

  -- the device failed in this call, and the session answers Failed from now on
  abbrev pub Breaks : (g : Ghosts D) → Session D g → Session D g → Type 0
  Breaks g old new = stores.Breaks g old.store new.store

-- the session has not failed, and represents a warehouse: every image does
pub record IsAt {D : Type 0} (g : Ghosts D) (session : Session D g) (w : Warehouse) : Type 0 where
  pub fine : has_failed session ≡ false
  pub represents : (disk_of g session).keeps_word → Represents (content_of g session) w
  pub all : AllShow (disk_of g session) (λ c. Represents c w)

-- what is so of the warehouse that a session was at, unless its device has broken its word
abbrev pub ForItsWarehouse : {D : Type 0} (g : Ghosts D) → Session D g → Session D g → (Warehouse → Type 0) → Type 0
ForItsWarehouse g old new P = (w : Warehouse) → IsAt g old w → g.keeps_word (device_of new) → P w

-- a crash at any point between two sessions leaves a content of which P holds, given the warehouse that the first is at
abbrev pub MayLeave : {D : Type 0} (g : Ghosts D) → Session D g → Session D g → (Warehouse → Content → Type 0) → Type 0
MayLeave g old new P = (w : Warehouse) → IsAt g old w → Leaves (disk_of g old) (disk_of g new) (P w)

-- the warehouse is as it was, and a crash at any point between the two leaves it so
abbrev pub StaysAt : {D : Type 0} (g : Ghosts D) → Session D g → Session D g → Type 0
StaysAt g old new = (w : Warehouse) → IsAt g old w
    → IsAt g new w × Leaves (disk_of g old) (disk_of g new) (λ c. Represents c w)

-- a device that keeps its word now has kept it before
abbrev pub KeptBefore : {D : Type 0} (g : Ghosts D) → Session D g → Session D g → Type 0
KeptBefore g old new = g.keeps_word (device_of new) → g.keeps_word (device_of old)

-- What a call of the device leaves of a session. `refuses` says with which faults the call was refused.
pub record CallsDevice {D : Type 0} (g : Ghosts D) (refuses : Fault → Type 0) (old new : Session D g) : Type 0 where
  -- it is refused with Failed exactly where the session has failed before, and then nothing is done
  pub failed : refuses Failed ↔ (has_failed old ≡ true)
  pub unmoved : refuses Failed → new ≡ old
  pub device : refuses Device → Breaks g old new
  pub word : KeptBefore g old new

-- what the store holds is as it was
abbrev pub KeepsContent : {D : Type 0} (g : Ghosts D) → Session D g → Session D g → Type 0
KeepsContent g old new = (disk_of g new).keeps_word → content_of g new ≡ content_of g old

-- one commit was made
abbrev pub CommitsOnce : {D : Type 0} (g : Ghosts D) → Session D g → Session D g → Type 0
CommitsOnce g old new = (disk_of g new).keeps_word → (content_of g new).generation ≡ (content_of g old).generation + 1

-- What a call leaves where it is refused: unless the device failed, all is as it was, at each moment.
pub record StaysIfRefused {D A : Type 0} (g : Ghosts D) (old new : Session D g) (result : Result A Fault) : Type 0 where
  pub stays : IfErr result (λ fault. fault ≢ Device → StaysAt g old new)
  pub kept : IfErr result (λ fault. fault ≢ Device → KeepsContent g old new)
  pub calls : CallsDevice g (IsErrOf result) old new

-- Why a submit is refused where the device has not failed: the first cause of the model, or one of its commit. The
-- commit puts the segment of the batch, its new ship modes, and the root with it. There may also be no memory to look
-- at the ship modes, which in the second layout comes before the sums.
abbrev pub SubmitRefuses : {D : Type 0} (g : Ghosts D) → Session D g → Warehouse → ℕ → List LineOrder → Fault → Type 0
SubmitRefuses g session w number batch fault =
    (refusal_of w number batch ≡ Some fault)
    ⊎ (((fault ≡ Memory) × PassesChecks w number batch)
    ⊎ (AdmitsBatch w number batch
    × stores.Refuses (content_of g session) (room_of session) (loading_puts w number batch) []
    (roots.root_spelling (root_of (loaded w batch))) fault))

-- Why an addition of dimension rows is refused where the device has not failed: the first cause of the model, or memory
-- in the place of one that is found by building the dimensions, or a cause of its commit. The commit puts each
-- dimension that has new rows, and the root.
abbrev pub AddRefuses : {D : Type 0} (g : Ghosts D) → Session D g → Warehouse → ℕ → DimRows → Fault → Type 0
AddRefuses g session w number more fault =
    (rows_refusal_of w number more ≡ Some fault)
    ⊎ (((fault ≡ Memory) × (number_refusal w.additions number ≡ None))
    ⊎ (AdmitsRows w number more
    × stores.Refuses (content_of g session) (room_of session) (widening_puts w.rows more) []
    (roots.root_spelling (root_of (widened w more))) fault))

-- a query of which P says that it is proper, over batches that are there
pub record IsAskable (P : Type 0) (w : Warehouse) (as_of : ℕ) : Type 0 where
  pub proper : P
  pub there : as_of ≤ length w.batches

-- Why a query is refused where the device has not failed: it is not proper; it is, and asks for more batches than there
-- are; or there is no memory.
abbrev pub AskingRefuses : Type 0 → Warehouse → ℕ → Fault → Type 0
AskingRefuses P w as_of fault =
    ((fault ≡ BadQuery) × (P → ⊥))
    ⊎ (((fault ≡ NoSuchPrefix) × P × (length w.batches < as_of))
    ⊎ ((fault ≡ Memory) × IsAskable P w as_of))

-- a query that is proper, over batches that are there
abbrev pub IsAsked : Warehouse → ℕ → Query → Type 0
IsAsked w as_of query = IsAskable (IsProper query) w as_of

abbrev pub QueryRefuses : Warehouse → ℕ → Query → Fault → Type 0
QueryRefuses w as_of query fault = AskingRefuses (IsProper query) w as_of fault
