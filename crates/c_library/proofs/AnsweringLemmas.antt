-- A device that shows the bytes of a file.
use Rattle.std.proofs.Common.{◌≡◌, ℕ, List, [], sym, subst}
use Rattle.sector_device.specs.Device.{DeviceState}
use Rattle.sector_device.specs.Memory.{memory_state}
use Rattle.sector_device.specs.EventRuns.{sectors_in}
use Rattle.object_store.specs.Content.{Content}
use Rattle.object_store.specs.Disk.{Disk, AllShow}
use Rattle.c_library.specs.Images.{device_over}

-- a device of this state that keeps its word
abbrev pub of_state : DeviceState → Disk
of_state s = record { keeps_word = Unit {0}; state = s; failures = 0 }

-- it shows what the sectors of the bytes show
pub over_sectors : (image : List ℕ) (sectors : List (List ℕ)) (P : Content → Type 0) → sectors ≡ sectors_in image
    → AllShow (device_over image) P → AllShow (of_state (memory_state sectors [])) P
over_sectors image sectors P is all = subst (λ (s : List (List ℕ)). AllShow (of_state (memory_state s [])) P) (sym is)
    all
