-- What a move to the second layout does, and what it writes. Our own.
use Rattle.std.specs.Prelude.{◌≡◌, ◌⊎◌, true, ℕ, List, Option, Result, Ok, Err}
use Rattle.std.specs.Io.KnownBytes.{Appends, Keeps}
use Rattle.sector_device.specs.declared.device.Sectors.{Ghosts}
use Rattle.cube_model.specs.declared.fault.Fault.{Fault}
use Rattle.cube_model.specs.declared.fault.Fault.TheVariants.{Device, Output}
use Rattle.object_store.specs.Disk.{Leaves}
use Rattle.ssb_reports.specs.Writing.{AppendsBeginning}
use Rattle.warehouse_objects.specs.Facts.{CanMigrate}
use Rattle.warehouse_objects.specs.Warehouse.{Warehouse, migrated}
use Rattle.warehouse.specs.declared.session.Session.{Session}
use Rattle.warehouse.specs.Migrating.{MigrateRefuses, MigratedOrNot}
use Rattle.warehouse.specs.Session.{IsAt, disk_of, has_failed}
use Rattle.warehouse_jobs.specs.Printed.{second_layout_text}

-- the warehouse is in the second layout, where it may be
abbrev pub IsMigrated : {D : Type 0} (g : Ghosts D) → Warehouse → Session D g → Type 0
IsMigrated g w new = CanMigrate w × IsAt g new (migrated w)

-- The warehouse is in the second layout, and that is written. Or the writer failed. Or nothing was written: the device
-- failed, or the move is refused and the warehouse is as it was
abbrev pub MigrationEnds : {D A : Type 0} (g : Ghosts D) → Warehouse → (old new : Session D g)
    → (before after : Option (List ℕ)) → Result A Fault → Type 0
MigrationEnds g w old new before after (Ok done) = IsMigrated g w new × Appends before after second_layout_text
MigrationEnds g w old new before after (Err fault) =
    ((fault ≡ Output) × IsMigrated g w new × AppendsBeginning before after second_layout_text)
    ⊎ (Keeps before after
    × (((fault ≡ Device) × (has_failed new ≡ true)) ⊎ (MigrateRefuses g old w fault × IsAt g new w)))

-- a move to the second layout. A crash leaves the warehouse as it was, or there
pub record Migrates {D A : Type 0} (g : Ghosts D) (w : Warehouse) (old new : Session D g)
    (before after : Option (List ℕ)) (result : Result A Fault) : Type 0 where
  pub ends : MigrationEnds g w old new before after result
  pub leaves : Leaves (disk_of g old) (disk_of g new) (MigratedOrNot w)
