-- What a choice of cuboids, upkeep and an audit do, and what they write. Our own.
use Rattle.std.specs.Prelude.{◌≡◌, ◌⊎◌, ℕ, true, List, Option, Result, Ok, Err}
use Rattle.std.specs.Io.KnownBytes.{Appends, Keeps}
use Rattle.sector_device.specs.declared.device.Sectors.{Ghosts}
use Rattle.cube_model.specs.declared.fault.Fault.{Fault}
use Rattle.cube_model.specs.declared.fault.Fault.TheVariants.{Device, Memory, Output}
use Rattle.lattice.specs.declared.view.View.{View}
use Rattle.object_store.specs.Disk.{Leaves}
use Rattle.ssb_reports.specs.Writing.{AppendsBeginning}
use Rattle.warehouse_root.specs.Layouts.{has_modes}
use Rattle.warehouse_objects.specs.Warehouse.{Warehouse, with_views}
use Rattle.warehouse_objects.specs.Represents.{Represents}
use Rattle.stored_cuboids.specs.Keeping.{IsKeptUp}
use Rattle.stored_cuboids.specs.Upkeep.{CuboidsAreCurrent}
use Rattle.warehouse.specs.declared.chosen.Chosen.{Chosen}
use Rattle.warehouse.specs.declared.session.Session.{Session}
use Rattle.warehouse.specs.Choosing.{ChooseForRefuses, ChooseRefuses, IsChoice, IsChoiceFor, views_of}
use Rattle.warehouse.specs.Session.{IsAt, disk_of, has_failed}
use Rattle.warehouse.specs.Upkeep.{UpkeepRefuses}
use Rattle.warehouse_jobs.specs.Printed.{audit_text, choice_text, upkeep_text}

-- the cuboids of a choice are stored
pub record IsChosen {D : Type 0} (g : Ghosts D) (w : Warehouse) (IsIt : List Chosen → Type 0) (new : Session D g)
    (chosen : List Chosen) : Type 0 where
  pub choice : IsIt chosen
  pub at : IsAt g new (with_views w (views_of chosen))

-- The cuboids of the choice are stored, and its lines are written. Or the writer failed, after a beginning of them. Or
-- nothing was written: the device failed, or the choice is refused and the warehouse is as it was
abbrev pub ChoiceEnds : {D A : Type 0} (g : Ghosts D) → Warehouse → (List Chosen → Type 0) → (Fault → Type 0)
    → (new : Session D g) → (before after : Option (List ℕ)) → Result A Fault → Type 0
ChoiceEnds g w IsIt refuses new before after (Ok done) = (chosen : List Chosen) × IsChosen g w IsIt new chosen
    × Appends before after (choice_text (has_modes w.layout) chosen)
ChoiceEnds g w IsIt refuses new before after (Err fault) =
    ((fault ≡ Output) × (chosen : List Chosen) × IsChosen g w IsIt new chosen
    × AppendsBeginning before after (choice_text (has_modes w.layout) chosen))
    ⊎ (Keeps before after × (((fault ≡ Device) × (has_failed new ≡ true)) ⊎ (refuses fault × IsAt g new w)))

-- a choice of cuboids, and why it is refused. A crash leaves the cuboids as they were, or those of the choice
pub record StoresChoice {D A : Type 0} (g : Ghosts D) (w : Warehouse) (IsIt : List Chosen → Type 0)
    (refuses : Fault → Type 0) (old new : Session D g) (before after : Option (List ℕ)) (result : Result A Fault) : Type
    0 where
  pub ends : ChoiceEnds g w IsIt refuses new before after result
  pub leaves : Leaves (disk_of g old) (disk_of g new)
      (λ c. Represents c w ⊎ ((chosen : List Chosen) × IsIt chosen × Represents c (with_views w (views_of chosen))))

-- that of k views where all views are asked for
abbrev pub Chooses : {D A : Type 0} (g : Ghosts D) → Warehouse → ℕ → (old new : Session D g)
    → (before after : Option (List ℕ)) → Result A Fault → Type 0
Chooses g w k old new before after result =
    StoresChoice g w (IsChoice w k) (ChooseRefuses g old w k) old new before after result

-- and where some are
abbrev pub ChoosesFor : {D A : Type 0} (g : Ghosts D) → Warehouse → List View → ℕ → (old new : Session D g)
    → (before after : Option (List ℕ)) → Result A Fault → Type 0
ChoosesFor g w demanded k old new before after result =
    StoresChoice g w (IsChoiceFor w demanded k) (ChooseForRefuses g old w demanded k) old new before after result

-- each stored cuboid holds all batches
pub record IsUpToDate {D : Type 0} (g : Ghosts D) (w : Warehouse) (new : Session D g) : Type 0 where
  pub now : Warehouse
  pub kept : IsKeptUp w now
  pub whole : CuboidsAreCurrent now
  pub at : IsAt g new now

-- each stored cuboid holds all batches, and that is written. Or the writer failed. Or nothing was written: the device
-- failed, or upkeep is refused, and marks that were reached stay
abbrev pub UpkeepEnds : {D A : Type 0} (g : Ghosts D) → Warehouse → (new : Session D g)
    → (before after : Option (List ℕ)) → Result A Fault → Type 0
UpkeepEnds g w new before after (Ok done) = IsUpToDate g w new × Appends before after upkeep_text
UpkeepEnds g w new before after (Err fault) =
    ((fault ≡ Output) × IsUpToDate g w new × AppendsBeginning before after upkeep_text)
    ⊎ (Keeps before after × (((fault ≡ Device) × (has_failed new ≡ true))
    ⊎ ((v : Warehouse) × IsKeptUp w v × IsAt g new v × UpkeepRefuses g new v fault)))

-- upkeep. A crash leaves the same rows, batches and views, and no mark lower
pub record KeepsUp {D A : Type 0} (g : Ghosts D) (w : Warehouse) (old new : Session D g)
    (before after : Option (List ℕ)) (result : Result A Fault) : Type 0 where
  pub ends : UpkeepEnds g w new before after result
  pub leaves : Leaves (disk_of g old) (disk_of g new) (λ c. (v : Warehouse) × IsKeptUp w v × Represents c v)

-- each stored cuboid is what it is to be, and that is written. Or the writer failed. Or nothing was written: the device
-- failed, or there is no memory
abbrev pub AuditEnds : {D A : Type 0} (g : Ghosts D) → Warehouse → (new : Session D g)
    → (before after : Option (List ℕ)) → Result A Fault → Type 0
AuditEnds g w new before after (Ok done) = IsAt g new w × Appends before after (audit_text true)
AuditEnds g w new before after (Err fault) =
    ((fault ≡ Output) × IsAt g new w × AppendsBeginning before after (audit_text true))
    ⊎ (Keeps before after × (((fault ≡ Device) × (has_failed new ≡ true)) ⊎ ((fault ≡ Memory) × IsAt g new w)))

-- an audit, which leaves the warehouse as it is at each moment
pub record Audits {D A : Type 0} (g : Ghosts D) (w : Warehouse) (old new : Session D g) (before after : Option (List ℕ))
    (result : Result A Fault) : Type 0 where
  pub ends : AuditEnds g w new before after result
  pub leaves : Leaves (disk_of g old) (disk_of g new) (λ c. Represents c w)
