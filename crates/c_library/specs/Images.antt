-- The warehouse that the bytes of a file hold. Our own.
use Rattle.std.specs.Prelude.{◌≡◌, ◌<◌, ◌%◌, ◌/◌, ◌^◌, ℕ, List, [], length, None}
use Rattle.sector_device.specs.Memory.{memory_state}
use Rattle.sector_device.specs.EventRuns.{sectors_in}
use Rattle.object_store.specs.Disk.{Disk, AllShow}
use Rattle.warehouse_objects.specs.Facts.{Facts}
use Rattle.warehouse.specs.Found.{MayRepresent}

-- the bytes as a device that nothing has changed
abbrev pub device_over : List ℕ → Disk
device_over image = record { keeps_word = Unit {0}; state = memory_state (sectors_in image) []; failures = 0 }

-- the bytes hold a warehouse of these facts
abbrev pub HoldsWarehouse : List ℕ → Facts → Type 0
HoldsWarehouse image facts = AllShow (device_over image) (MayRepresent facts None)

-- they are whole sectors, fewer than 2^32
pub record AreSectors (image : List ℕ) : Type 0 where
  pub no_rest : length image % 512 ≡ 0
  pub few : length image / 512 < 2 ^ 32
