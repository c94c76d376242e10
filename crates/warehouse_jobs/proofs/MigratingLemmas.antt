-- How a move to the second layout ends.
use Rattle.std.proofs.Common.{◌≡◌, ⊎_elim, inl, inr, ℕ, true, List, Option, Result, Ok, Err}
use Rattle.std.proofs.KnownBytes.{Keeps-refl}
use Rattle.sector_device.specs.declared.device.Sectors.{Ghosts}
use Rattle.cube_model.specs.declared.fault.Fault.{Fault}
use Rattle.cube_model.specs.declared.fault.Fault.TheVariants.{Device}
use Rattle.ssb_reports.specs.Writing.{Writes}
use Rattle.warehouse_objects.specs.Warehouse.{Warehouse}
use Rattle.warehouse.specs.declared.session.Session.{Session}
use Rattle.warehouse.specs.Migrating.{MigrateRefuses}
use Rattle.warehouse.specs.Session.{IsAt, has_failed}
use Rattle.warehouse.proofs.Refusing.{device_or}
use Rattle.warehouse_jobs.specs.Migrating.{IsMigrated, MigrationEnds}
use Rattle.warehouse_jobs.specs.Printed.{second_layout_text}

module _ {D : Type 0} (g : Ghosts D) (w : Warehouse) (old new : Session D g) (before after : Option (List ℕ)) where
  pub move-refused : (fault : Fault) (result : Result Unit Fault) → (fault ≡ Device → has_failed new ≡ true)
      → ((fault ≡ Device → ⊥) → MigrateRefuses g old w fault × IsAt g new w)
      → (other : Fault) × (result ≡ Err other) × (other ≡ fault) → MigrationEnds g w old new before before result
  move-refused fault result failed causes stop =
      rw (stop.1, stop.2)
      (inr (Keeps-refl before, ⊎_elim (λ e. inl (e, failed e)) (λ no. inr (causes no)) (device_or fault)))

  pub move-written : (result : Result Unit Fault) → IsMigrated g w new
      → Writes before after result second_layout_text → MigrationEnds g w old new before after result
  move-written (Ok done) is written = (is, written)
  move-written (Err fault) is written = inl (written.0, is, written.1)
