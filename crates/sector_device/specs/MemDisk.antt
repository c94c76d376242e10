-- What a memory disk shows, and what its calls do to that. Our own.
use Rattle.std.specs.Prelude.{◌≡◌, ◌≢◌, ℕ, List, [], ◌∷◌, ◌++◌, reverse}
use Rattle.sector_device.specs.Device.{DeviceState, CandidatesStay}
use Rattle.sector_device.specs.Memory.{candidates, memory_state}
use Rattle.sector_device.specs.declared.memory.MemDisk.{MemDisk}

abbrev pub state_of : MemDisk → DeviceState
state_of m = memory_state m.sectors.items (reverse m.log.items)

-- the candidates of a sector, the oldest first
abbrev pub oldest_first : MemDisk → ℕ → List (List ℕ)
oldest_first m i = reverse (candidates m.sectors.items (reverse m.log.items) i)

-- how often it was read
abbrev pub reads_of : MemDisk → ℕ
reads_of m = m.reads

-- how often it has failed
abbrev pub failures_of : MemDisk → ℕ
failures_of m = m.failures

-- the sector has these bytes as its newest candidate, also where it has them already, and the others have theirs
pub record AddsCandidate (at : ℕ) (bytes : List ℕ) (old new : MemDisk) : Type 0 where
  pub here : oldest_first new at ≡ oldest_first old at ++ (bytes ∷ [])
  pub others : (i : ℕ) → i ≢ at → oldest_first new i ≡ oldest_first old i

-- nothing changed but the count of failures
pub record IsUnchanged (old new : MemDisk) : Type 0 where
  pub stays : CandidatesStay (state_of old) (state_of new)
  pub candidates : (i : ℕ) → oldest_first new i ≡ oldest_first old i
  pub moment : (state_of new).moment ≡ (state_of old).moment
  pub reads : reads_of new ≡ reads_of old
