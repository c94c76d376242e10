-- A device of which an observer sees the calls. Our own.
use Rattle.std.specs.Prelude.{◌≡◌, ℕ, Result, MatchResult}
use Rattle.sector_device.specs.Device.{DeviceState}
use Rattle.sector_device.specs.declared.device.DeviceError.{DeviceError}
use Rattle.sector_device.specs.declared.device.Sectors as sectors
use Rattle.watched_device.specs.declared.watched.Watched.{Watched}

-- the device that is watched
abbrev pub inner_of : {D O : Type 0} → Watched D O → D
inner_of w = w.inner

-- what sees its calls
abbrev pub observer_of : {D O : Type 0} → Watched D O → O
observer_of w = w.observer

-- what the inner device shows
abbrev pub state_of : {D O : Type 0} → sectors.Ghosts D → Watched D O → DeviceState
state_of G w = G.state w.inner

abbrev pub KeepsWord : {D O : Type 0} → sectors.Ghosts D → Watched D O → Type 0
KeepsWord G w = G.keeps_word w.inner

-- how often the inner device has failed
abbrev pub failures_of : {D O : Type 0} → sectors.Ghosts D → Watched D O → ℕ
failures_of G w = G.failed w.inner

-- an observer saw a call of so many sectors where it succeeded, and else nothing
abbrev pub IsNoted : {O : Type 0} → (ℕ → O → O → Type 0) → ℕ → Result (Unit {0}) DeviceError → O → O → Type 0
IsNoted sees sectors result old new = MatchResult result (λ _. sees sectors old new) (λ _. new ≡ old)
