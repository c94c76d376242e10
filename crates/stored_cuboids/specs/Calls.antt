-- What a call that may write leaves of a store. Our own.
use Rattle.std.specs.Prelude.{◌≡◌, false}
use Rattle.sector_device.specs.declared.device.Sectors.{Ghosts}
use Rattle.cube_model.specs.declared.fault.Fault.{Fault}
use Rattle.cube_model.specs.declared.fault.Fault.TheVariants.{Device, Failed}
use Rattle.object_store.specs.declared.store.Store.{Store}
use Rattle.object_store.specs.Store.{Breaks, device_of, disk_of, has_failed}

-- What a call leaves of a store that had not failed, and of its device. `refuses` says with which faults the call was
-- refused.
pub record CallsStore {D : Type 0} (g : Ghosts D) (refuses : Fault → Type 0) (old new : Store D g) : Type 0 where
  pub failed : refuses Failed → ⊥
  pub device : refuses Device → Breaks g old new
  -- unless the device failed in this call, the store has not failed, and counts no failure more
  pub fine : (refuses Device → ⊥) → has_failed new ≡ false
  pub failures : (refuses Device → ⊥) → (disk_of g new).failures ≡ (disk_of g old).failures
  -- a device that keeps its word now has kept it before
  pub word : g.keeps_word (device_of new) → g.keeps_word (device_of old)
