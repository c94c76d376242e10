-- What a device over the bytes of a file shows after calls. Our own.
use Rattle.std.specs.Prelude.{ℕ, List}
use Rattle.sector_device.specs.Device.{DeviceState}
use Rattle.journal_device.specs.After.{state_after}
use Rattle.journal_device.specs.declared.call.Call.{Call}
use Rattle.journal_device.specs.declared.disk.JournalDisk.{JournalDisk}
use Rattle.journal_device.specs.declared.origin.Origin as origin

module _ {O : Type 0} {g : origin.Ghosts O} where
  -- the calls that were made so far
  abbrev pub calls_of : JournalDisk O g → List Call
  calls_of d = d.calls.items

  -- the file after these
  abbrev pub state_of : JournalDisk O g → DeviceState
  state_of d = state_after g.image (calls_of d)

  -- how often it has failed
  abbrev pub failures_of : JournalDisk O g → ℕ
  failures_of d = d.failures

  -- nothing is lost of what is in memory
  abbrev pub KeepsWord : JournalDisk O g → Type 0
  KeepsWord d = Unit {0}
