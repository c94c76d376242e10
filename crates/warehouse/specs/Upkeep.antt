-- Upkeep and audits of a session.
use Rattle.std.specs.Prelude.{◌≡◌, ◌⊎◌, ℕ, false, length}
use Rattle.sector_device.specs.declared.device.Sectors.{Ghosts}
use Rattle.cube_model.specs.declared.fault.Fault.{Fault}
use Rattle.cube_model.specs.declared.fault.Fault.TheVariants.{TooManyCells}
use Rattle.warehouse_objects.specs.Warehouse.{Warehouse}
use Rattle.warehouse_objects.specs.Represents.{IsLaidOut}
use Rattle.stored_cuboids.specs.Keeping.{IsLeastTooLarge}
use Rattle.stored_cuboids.specs.Upkeep.{KeepUpRefuses}
use Rattle.warehouse.specs.declared.session.Session.{Session}
use Rattle.warehouse.specs.Session.{content_of, disk_of, has_failed}

-- the session has not failed, and its content is that of a warehouse, whatever the cells of its cuboids are
pub record IsLaidAt {D : Type 0} (g : Ghosts D) (session : Session D g) (w : Warehouse) : Type 0 where
  pub fine : has_failed session ≡ false
  pub laid : (disk_of g session).keeps_word → IsLaidOut (content_of g session) w

-- Why upkeep is refused where the device has not failed, by what the warehouse is then: the grouping of all batches by
-- a view has too many cells, and that is the first such view; or a commit on the way is refused.
abbrev pub UpkeepRefuses : {D : Type 0} (g : Ghosts D) → Session D g → Warehouse → Fault → Type 0
UpkeepRefuses g session w fault =
    ((number : ℕ) × (fault ≡ TooManyCells number) × IsLeastTooLarge w number × (w.target ≡ length w.batches))
    ⊎ KeepUpRefuses g session.store w fault
