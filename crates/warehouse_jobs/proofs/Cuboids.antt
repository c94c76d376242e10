-- How a choice of cuboids, upkeep and an audit end.
use Rattle.std.proofs.Common.{◌≡◌, ⊎_elim, inl, inr, ℕ, Bool, true, List, Option, Result, Ok, Err}
use Rattle.std.proofs.KnownBytes.{Keeps-refl}
use Rattle.sector_device.specs.declared.device.Sectors.{Ghosts}
use Rattle.cube_model.specs.declared.fault.Fault.{Fault}
use Rattle.cube_model.specs.declared.fault.Fault.TheVariants.{Device, Memory}
use Rattle.ssb_reports.specs.Writing.{Writes}
use Rattle.warehouse_root.specs.Layouts.{has_modes}
use Rattle.warehouse_objects.specs.Warehouse.{Warehouse}
use Rattle.stored_cuboids.specs.Keeping.{IsKeptUp}
use Rattle.warehouse.specs.declared.chosen.Chosen.{Chosen}
use Rattle.warehouse.specs.declared.session.Session.{Session}
use Rattle.warehouse.specs.Session.{IsAt, has_failed}
use Rattle.warehouse.specs.Upkeep.{UpkeepRefuses}
use Rattle.warehouse.proofs.Refusing.{device_or}
use Rattle.warehouse_jobs.specs.Cuboids.{AuditEnds, ChoiceEnds, IsChosen, IsUpToDate, UpkeepEnds}
use Rattle.warehouse_jobs.specs.Printed.{choice_text, upkeep_text}

module _ {D : Type 0} (g : Ghosts D) (w : Warehouse) (old new : Session D g) (before after : Option (List ℕ)) where
  pub choose-refused : (IsIt : List Chosen → Type 0) (refuses : Fault → Type 0) (fault : Fault)
      (result : Result Unit Fault) → (fault ≡ Device → has_failed new ≡ true)
      → ((fault ≡ Device → ⊥) → refuses fault × IsAt g new w) → (other : Fault) × (result ≡ Err other) × (other ≡ fault)
      → ChoiceEnds g w IsIt refuses new before before result
  choose-refused IsIt refuses fault result failed causes stop =
      rw (stop.1, stop.2)
      (inr (Keeps-refl before, ⊎_elim (λ e. inl (e, failed e)) (λ no. inr (causes no)) (device_or fault)))

  pub choose-written : (IsIt : List Chosen → Type 0) (refuses : Fault → Type 0) (chosen : List Chosen)
      (result : Result Unit Fault) → IsChosen g w IsIt new chosen
      → Writes before after result (choice_text (has_modes w.layout) chosen)
      → ChoiceEnds g w IsIt refuses new before after result
  choose-written IsIt refuses chosen (Ok done) is written = (chosen, is, written)
  choose-written IsIt refuses chosen (Err fault) is written = inl (written.0, chosen, is, written.1)

  pub upkeep-refused : (fault : Fault) (result : Result Unit Fault) → (fault ≡ Device → has_failed new ≡ true)
      → ((fault ≡ Device → ⊥) → (v : Warehouse) × IsKeptUp w v × IsAt g new v × UpkeepRefuses g new v fault)
      → (other : Fault) × (result ≡ Err other) × (other ≡ fault) → UpkeepEnds g w new before before result
  upkeep-refused fault result failed causes stop =
      rw (stop.1, stop.2)
      (inr (Keeps-refl before, ⊎_elim (λ e. inl (e, failed e)) (λ no. inr (causes no)) (device_or fault)))

  pub upkeep-written : (result : Result Unit Fault) → IsUpToDate g w new → Writes before after result upkeep_text
      → UpkeepEnds g w new before after result
  upkeep-written (Ok done) is written = (is, written)
  upkeep-written (Err fault) is written = inl (written.0, is, written.1)

  pub audit-refused : (fault : Fault) (result : Result Bool Fault) → (fault ≡ Device → has_failed new ≡ true)
      → ((fault ≡ Device → ⊥) → (fault ≡ Memory) × IsAt g new w) → (other : Fault) × (result ≡ Err other)
      × (other ≡ fault) → AuditEnds g w new before before result
  audit-refused fault result failed causes stop =
      rw (stop.1, stop.2)
      (inr (Keeps-refl before, ⊎_elim (λ e. inl (e, failed e)) (λ no. inr (causes no)) (device_or fault)))
