-- The move of a warehouse to the second layout. Our own.
use Rattle.std.specs.Prelude.{◌≡◌, ◌⊎◌, ℕ, ◌+◌, None, Some, List, []}
use Rattle.sector_device.specs.declared.device.Sectors.{Ghosts}
use Rattle.cube_model.specs.declared.fault.Fault.{Fault}
use Rattle.cube_model.specs.declared.fault.Fault.TheVariants.{Memory}
use Rattle.cube_model.specs.Admission.{all_rows}
use Rattle.object_store.specs.Content.{Content}
use Rattle.object_store.specs.Room.{Room}
use Rattle.object_store.specs.Store as stores
use Rattle.warehouse_root.specs.declared.layout.Layout.{Layout}
use Rattle.warehouse_root.specs.declared.layout.Layout.TheVariants.{First, Second}
use Rattle.warehouse_root.specs.Modes.{AreModes, kept_modes, modes_spelling}
use Rattle.warehouse_root.specs.Root as roots
use Rattle.warehouse_root.specs.Root.{IsRoot, PlainRoot, root_in_second}
use Rattle.warehouse_objects.specs.Facts.{CanMigrate}
use Rattle.warehouse_objects.specs.Lawful.{modes_put}
use Rattle.warehouse_objects.specs.Migration.{migration_refusal}
use Rattle.warehouse_objects.specs.Represents.{Represents, root_of}
use Rattle.warehouse_objects.specs.Warehouse.{Warehouse, migrated, ship_modes_of}
use Rattle.warehouse.specs.declared.migration.Migration.{Migration}
use Rattle.warehouse.specs.declared.session.Session.{Session}
use Rattle.warehouse.specs.Session.{content_of, disk_of, room_of}

-- what a move puts: the ship modes of all batches
abbrev pub migration_puts : Warehouse → List (ℕ × List ℕ)
migration_puts w = modes_put Second (ship_modes_of (migrated w))

-- Why a move is refused where the device has not failed: a ship mode that cannot be a member, no memory to look at
-- them, or a cause of the commit.
abbrev pub RefusesMove : Content → Room → Warehouse → Fault → Type 0
RefusesMove content room w fault =
    (migration_refusal w.layout w.batches ≡ Some fault)
    ⊎ ((fault ≡ Memory)
    ⊎ (CanMigrate w
    × stores.Refuses content room (migration_puts w) [] (roots.root_spelling (root_of (migrated w))) fault))

abbrev pub MigrateRefuses : {D : Type 0} (g : Ghosts D) → Session D g → Warehouse → Fault → Type 0
MigrateRefuses g session w fault = RefusesMove (content_of g session) (room_of session) w fault

-- one commit in the first layout, and none in the second
abbrev pub IsMoved : Layout → Content → Content → Type 0
IsMoved First old new = new.generation ≡ old.generation + 1
IsMoved Second old new = new ≡ old

abbrev pub MovesOnce : {D : Type 0} (g : Ghosts D) → Warehouse → Session D g → Session D g → Type 0
MovesOnce g w old new = (disk_of g new).keeps_word → IsMoved w.layout (content_of g old) (content_of g new)

-- what a crash within a move may leave: the warehouse as it was, or in the second layout if it may be there
abbrev pub MigratedOrNot : Warehouse → Content → Type 0
MigratedOrNot w c = Represents c w ⊎ (CanMigrate w × Represents c (migrated w))

-- ship modes and the root of the second layout, with the bytes of both
pub record IsMigration (root : PlainRoot) (m : Migration) : Type 0 where
  pub are : AreModes m.modes
  pub bytes : m.bytes.items ≡ modes_spelling m.modes
  pub root_is : m.root ≡ root_in_second root
  pub spelled : IsRoot m.root_bytes.items m.root

-- they are those of a warehouse of the first layout
pub record IsMigrationOf (w : Warehouse) (root : PlainRoot) (m : Migration) : Type 0 where
  pub allowed : migration_refusal First w.batches ≡ None
  pub modes_are : m.modes ≡ kept_modes Second (all_rows w.batches)
  pub root_is : root ≡ root_of w
