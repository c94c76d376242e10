-- How a warehouse without batches is put on a device without one. Our own.
use Rattle.std.specs.Prelude.{◌≡◌, ◌≢◌, ◌⊎◌, ◌+◌, ◌-◌, ◌^◌, ◌<◌, min, false, []}
use Rattle.sector_device.specs.declared.device.Sectors.{Ghosts}
use Rattle.cube_model.specs.declared.fault.Fault.{Fault}
use Rattle.cube_model.specs.declared.fault.Fault.TheVariants.{AlreadyFormatted, Device, DeviceSize, Full, Memory}
use Rattle.cube_model.specs.declared.rows.DimRows.{DimRows}
use Rattle.object_store.specs.Disk.{disk, Each, IsBlank, LeavesOrNone, OnlyImagesOf}
use Rattle.object_store.specs.Room.{LacksRoom, empty_room}
use Rattle.object_store.specs.Shows.{HasNone}
use Rattle.object_store.specs.Store.{content_of, disk_of, has_failed}
use Rattle.object_store.specs.declared.store.Store.{Store}
use Rattle.warehouse_root.specs.declared.layout.Layout.{Layout}
use Rattle.warehouse_root.specs.Root.{PlainRoot, first_root, root_spelling}
use Rattle.warehouse_objects.specs.Lawful.{beginning_puts}
use Rattle.warehouse_objects.specs.Warehouse.{fresh_in}
use Rattle.warehouse_objects.specs.Represents.{Represents}
use Rattle.warehouse_objects.specs.Loaded.{IsLoaded}
use Rattle.warehouse.specs.Session as sessions
use Rattle.warehouse.specs.Session.{IsAt}
use Rattle.warehouse.specs.declared.session.Session.{Session}

-- the store represents the warehouse of no batch, and its root is that one
pub record MakesStore {D : Type 0} (g : Ghosts D) (device : D) (layout : Layout) (rows : DimRows) (root : PlainRoot)
    (store : Store D g) : Type 0 where
  -- until the end an image has no valid superblock, or represents it
  pub leaves : Each (disk g device) IsBlank
      → LeavesOrNone (disk g device) (disk_of g store) (λ c. Represents c (fresh_in layout rows))
  pub fine : has_failed store ≡ false
  pub represents : (disk_of g store).keeps_word → Represents (content_of g store) (fresh_in layout rows)
  pub loaded : (disk_of g store).keeps_word → IsLoaded (content_of g store) rows [] root
  -- the reads at the start showed no valid superblock
  pub unformatted : (disk_of g store).keeps_word → HasNone (g.state device).reads

-- no store was made: why, and what the device that is handed back is
pub record RefusesToMake {D : Type 0} (g : Ghosts D) (device : D) (layout : Layout) (rows : DimRows) (fault : Fault)
    (back : D) : Type 0 where
  pub leaves : Each (disk g device) IsBlank
      → LeavesOrNone (disk g device) (disk g back) (λ c. Represents c (fresh_in layout rows))
  pub still_blank : fault ≢ Device → Each (disk g device) IsBlank → Each (disk g back) IsBlank
  pub not_already : g.keeps_word back → Each (disk g device) IsBlank → fault ≢ AlreadyFormatted
  pub only : fault ≡ AlreadyFormatted → OnlyImagesOf (disk g device) (disk g back)
  pub spared : (HasNone (g.state device).reads → ⊥) → OnlyImagesOf (disk g device) (disk g back)
  pub failures : fault ≡ Device → g.failed back ≡ min (g.failed device + 1) (2 ^ 64 - 1)
  pub size : fault ≡ DeviceSize → (g.state device).size < 64
  pub full : fault ≡ Full
      → LacksRoom (empty_room (g.state device).size) (beginning_puts layout rows) [] (root_spelling (first_root layout))
  pub causes : (fault ≡ AlreadyFormatted)
      ⊎ ((fault ≡ DeviceSize) ⊎ ((fault ≡ Device) ⊎ ((fault ≡ Full) ⊎ (fault ≡ Memory))))

-- a session of the warehouse of no batch was made
pub record IsCreated {D : Type 0} (g : Ghosts D) (device : D) (layout : Layout) (rows : DimRows)
    (session : Session D g) :
    Type 0 where
  -- until the end an image has no valid superblock, or represents the warehouse
  pub leaves : Each (disk g device) IsBlank
      → LeavesOrNone (disk g device) (sessions.disk_of g session) (λ c. Represents c (fresh_in layout rows))
  pub at : IsAt g session (fresh_in layout rows)
  pub unformatted : (sessions.disk_of g session).keeps_word → HasNone (g.state device).reads
