-- What a check of all that is stored does, and what it writes. Our own.
use Rattle.std.specs.Prelude.{◌≡◌, ◌⊎◌, ℕ, ◌+◌, Bool, true, List, [], ◌∷◌, ◌++◌, codes, Option, Some, None, Result, Ok}
use Rattle.std.specs.Prelude.{Err}
use Rattle.std.specs.Fmt.{decimal}
use Rattle.std.specs.Io.KnownBytes.{Appends, Keeps}
use Rattle.sector_device.specs.declared.device.Sectors.{Ghosts}
use Rattle.cube_model.specs.declared.fault.Fault.{Fault}
use Rattle.cube_model.specs.declared.fault.Fault.TheVariants.{Device, Memory, Output}
use Rattle.object_store.specs.Disk.{Leaves}
use Rattle.ssb_reports.specs.Writing.{AppendsBeginning}
use Rattle.warehouse_root.specs.declared.cuboid.StoredCuboid.{StoredCuboid}
use Rattle.warehouse_objects.specs.Warehouse.{Warehouse}
use Rattle.warehouse_objects.specs.Represents.{Represents}
use Rattle.warehouse.specs.declared.session.Session.{Session}
use Rattle.warehouse.specs.declared.status.Status.{Status}
use Rattle.warehouse.specs.Session.{IsAt, content_of, disk_of, has_failed}
use Rattle.warehouse.specs.Status.{IsStatus}

-- how many places are not empty
abbrev pub count_stored : List (Option StoredCuboid) → ℕ
count_stored [] = 0
count_stored (None ∷ places) = count_stored places
count_stored (Some cuboid ∷ places) = 1 + count_stored places

-- that nothing is wrong, such as: ok: batches 1, rows 3, cuboids 3
abbrev pub sound_line : ℕ → ℕ → ℕ → List ℕ
sound_line batches rows cuboids =
    codes "ok: batches "
    ++ (decimal batches
    ++ (codes ", rows " ++ (decimal rows ++ (codes ", cuboids " ++ (decimal cuboids ++ codes "\n")))))

-- the same with the numbers of a status
abbrev pub sound_text : Status → List ℕ
sound_text status = sound_line status.batches status.rows (count_stored status.cuboids)

-- Nothing is wrong, and that is written. Or the writer failed. Or nothing was written: the device failed, or there is
-- no memory
abbrev pub CheckEnds : {D : Type 0} (g : Ghosts D) → Warehouse → (new : Session D g) → (before after : Option (List ℕ))
    → Result Bool Fault → Type 0
CheckEnds g w new before after (Ok sound) =
    (sound ≡ true) × IsAt g new w × (status : Status) × IsStatus w (content_of g new).generation status
    × Appends before after (sound_text status)
CheckEnds g w new before after (Err fault) =
    ((fault ≡ Output) × IsAt g new w × (status : Status) × IsStatus w (content_of g new).generation status
    × AppendsBeginning before after (sound_text status))
    ⊎ (Keeps before after × (((fault ≡ Device) × (has_failed new ≡ true)) ⊎ ((fault ≡ Memory) × IsAt g new w)))

-- a check of a warehouse, which leaves it as it is at each moment
pub record Checks {D : Type 0} (g : Ghosts D) (w : Warehouse) (old new : Session D g) (before after : Option (List ℕ))
    (result : Result Bool Fault) : Type 0 where
  pub ends : CheckEnds g w new before after result
  pub leaves : Leaves (disk_of g old) (disk_of g new) (λ c. Represents c w)
