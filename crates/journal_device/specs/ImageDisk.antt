-- What a device over an image shows. Our own.
use Rattle.std.specs.Prelude.{ℕ, List, []}
use Rattle.sector_device.specs.Device.{DeviceState}
use Rattle.sector_device.specs.Memory.{memory_state}
use Rattle.journal_device.specs.declared.image_disk.ImageDisk.{ImageDisk}

-- the sectors that a device shows
abbrev pub shown_sectors : ImageDisk → List (List ℕ)
shown_sectors d = d.sectors.now

-- as sectors of which none was ever written
abbrev pub state_of : ImageDisk → DeviceState
state_of d = memory_state (shown_sectors d) []

-- how often it has failed
abbrev pub failures_of : ImageDisk → ℕ
failures_of d = d.failures

-- as nothing changes it, always
abbrev pub KeepsWord : ImageDisk → Type 0
KeepsWord d = Unit {0}
