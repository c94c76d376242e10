-- What a copy of a warehouse has. Our own.
use Rattle.std.specs.Prelude.{◌≡◌, ◌⊎◌, ◌<◌, ◌≤◌, ℕ, Option, None, List, length, map, slice_get, slice_index_or, take}
use Rattle.cube_model.specs.declared.fault.Fault.{Fault}
use Rattle.cube_model.specs.declared.fault.Fault.TheVariants.{AlreadyFormatted, Device, DeviceSize, Full, Memory, Worn}
use Rattle.lattice.specs.declared.view.View.{View}
use Rattle.object_store.specs.Content.{Content}
use Rattle.warehouse_objects.specs.Represents.{Represents}
use Rattle.warehouse_objects.specs.Warehouse.{Cuboid, Warehouse, fresh_in, views_in_order}
use Rattle.warehouse_root.specs.Limits.{most_cuboids}
use Rattle.warehouse_root.specs.declared.cuboid.StoredCuboid.{StoredCuboid}
use Rattle.stored_cuboids.specs.Keeping.{IsLeastTooLarge}
use Rattle.stored_cuboids.specs.Upkeep.{CuboidsAreCurrent}
use Rattle.warehouse.specs.Status.{IsSaidAt}

-- the views of the stored cuboids
abbrev pub stored_views_of : Warehouse → List View
stored_views_of w = map (λ cuboid. cuboid.view) w.cuboids

-- the layout, the dimension rows and all batches of a warehouse, and the cuboids of its views
pub record IsCopy (w copy : Warehouse) : Type 0 where
  pub layout : copy.layout ≡ w.layout
  pub rows : copy.rows ≡ w.rows
  pub batches : copy.batches ≡ w.batches
  pub views : stored_views_of copy ≡ views_in_order w.layout (stored_views_of w)

-- the dimension rows of a warehouse, and its first so many batches
pub record IsPart (w part : Warehouse) : Type 0 where
  pub rows : part.rows ≡ w.rows
  pub count : ℕ
  pub batches : part.batches ≡ take count w.batches

-- a content represents the dimension rows of a warehouse, and some first batches of it
abbrev pub HoldsPart : Warehouse → Content → Type 0
HoldsPart w c = (part : Warehouse) × IsPart w part × Represents c part

-- the warehouse of its layout, its dimension rows and its first so many batches, without cuboids
abbrev pub with_first : Warehouse → ℕ → Warehouse
with_first w count = record (fresh_in w.layout w.rows) { batches = take count w.batches }

-- Why a copy is not made: no memory, a device that fails, no room, or the last generation. Or the new device is too
-- small, or has a warehouse already.
abbrev pub IsCopyFault : Fault → Type 0
IsCopyFault Memory = Unit {0}
IsCopyFault Device = Unit {0}
IsCopyFault Full = Unit {0}
IsCopyFault Worn = Unit {0}
IsCopyFault DeviceSize = Unit {0}
IsCopyFault AlreadyFormatted = Unit {0}
IsCopyFault _ = ⊥

-- places have what is said of stored cuboids, one after the other, and those after the last are empty
pub record AreSaidOf (stored : List Cuboid) (places : List (Option StoredCuboid)) : Type 0 where
  pub few : length stored ≤ most_cuboids
  pub each : (place : ℕ) → place < most_cuboids → IsSaidAt (slice_get stored place) (slice_index_or places place None)

-- each stored cuboid holds all batches, or the grouping by its view has too many cells
abbrev pub AreBroughtOn : Warehouse → Type 0
AreBroughtOn w = CuboidsAreCurrent w ⊎ ((number : ℕ) × IsLeastTooLarge w number × (w.target ≡ length w.batches))
