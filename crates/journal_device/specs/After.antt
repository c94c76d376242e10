-- What a file shows after calls. Our own.
use Rattle.std.specs.Prelude.{◌≡◌, ℕ, ◌<◌, List, length}
use Rattle.sector_device.specs.Device.{DeviceState}
use Rattle.sector_device.specs.Memory.{content}
use Rattle.sector_device.specs.History.{file_state}
use Rattle.sector_device.specs.EventRuns.{sectors_in}
use Rattle.journal_device.specs.Calls.{record_of}
use Rattle.journal_device.specs.declared.call.Call.{Call}

-- The file of these bytes once calls were made on it, each with success: what was written since the last sync may be
-- lost
abbrev pub state_after : List ℕ → List Call → DeviceState
state_after image calls =
    file_state (length (sectors_in image)) (content (sectors_in image)) (λ i b. b ≡ content (sectors_in image) i)
    (record_of calls)

-- each candidate has 512 bytes
abbrev pub CallsAreWhole : List ℕ → List Call → Type 0
CallsAreWhole image calls = (i : ℕ) (b : List ℕ) → i < (state_after image calls).size
    → (state_after image calls).may_hold i b → length b ≡ 512
