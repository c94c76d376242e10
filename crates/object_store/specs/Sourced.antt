-- What a store promises of reads of its objects as texts. Our own.
use Rattle.std.specs.Prelude.{◌≡◌, false, true}
use Rattle.sector_device.specs.declared.device.Sectors.{Ghosts}
use Rattle.cube_model.specs.declared.fault.Fault.{Fault}
use Rattle.cube_model.specs.declared.fault.Fault.TheVariants.{Device, Failed}
use Rattle.object_store.specs.declared.store.Store.{Store}
use Rattle.object_store.specs.Disk.{Leaves}
use Rattle.object_store.specs.Store.{content_of, disk_of, has_failed, IsStill, Breaks}

-- what the store holds stays, at each moment
pub record HasOnlyRead {D : Type 0} (g : Ghosts D) (old new : Store D g) : Type 0 where
  pub still : IsStill g old new
  pub leaves : has_failed old ≡ false → Leaves (disk_of g old) (disk_of g new) (λ c. c ≡ content_of g old)

-- and so it does with a read after such reads that is refused
pub record ReadIsRefused {D : Type 0} (g : Ghosts D) (fault : Fault) (old new : Store D g) : Type 0 where
  pub failed_before : fault ≡ Failed → (has_failed old ≡ true) × IsStill g old new
  pub breaks : fault ≡ Device → Breaks g old new
  pub leaves : has_failed old ≡ false → Leaves (disk_of g old) (disk_of g new) (λ c. c ≡ content_of g old)

-- reads lead from one to the other, also where there were reads before them
pub record ReadsAfterReads {D : Type 0} (g : Ghosts D) (old new : Store D g) : Type 0 where
  pub now : HasOnlyRead g old new
  pub after : (start : Store D g) → HasOnlyRead g start old → HasOnlyRead g start new

-- and so do reads with a refused one after them
pub record RefusesAfterReads {D : Type 0} (g : Ghosts D) (fault : Fault) (old new : Store D g) : Type 0 where
  pub now : ReadIsRefused g fault old new
  pub after : (start : Store D g) → HasOnlyRead g start old → ReadIsRefused g fault start new
