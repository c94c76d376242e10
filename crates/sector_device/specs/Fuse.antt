-- A device of which chosen calls fail. Our own.
use Rattle.std.specs.Prelude.{◌≡◌, ℕ, ◌+◌, ◌-◌, ◌^◌, min, Bool, IsTrue, IsErr, OnOk, Result, List}
use Rattle.sector_device.specs.Device.{DeviceState, CountsFailure}
use Rattle.sector_device.specs.declared.device.DeviceError.{DeviceError}
use Rattle.sector_device.specs.declared.device.Sectors as sectors
use Rattle.sector_device.specs.declared.fuse.FailurePlan.{FailurePlan}
use Rattle.sector_device.specs.declared.fuse.Fuse.{Fuse}
use Rattle.sector_device.specs.FailurePlan.{fails_at}

abbrev pub inner_of : {D : Type 0} → Fuse D → D
inner_of f = f.inner

-- what the inner device shows
abbrev pub state_of : {D : Type 0} → sectors.Ghosts D → Fuse D → DeviceState
state_of D f = D.state f.inner

abbrev pub KeepsWord : {D : Type 0} → sectors.Ghosts D → Fuse D → Type 0
KeepsWord D f = D.keeps_word f.inner

-- how often the inner device has failed
abbrev pub inner_failures : {D : Type 0} → sectors.Ghosts D → Fuse D → ℕ
inner_failures D f = D.failed f.inner

abbrev pub plan_of : {D : Type 0} → Fuse D → FailurePlan
plan_of f = f.plan

-- how many reads, writes and syncs there were
abbrev pub call_count_of : {D : Type 0} → Fuse D → ℕ
call_count_of f = f.calls

-- how often it has failed
abbrev pub failures_of : {D : Type 0} → Fuse D → ℕ
failures_of f = f.failures

-- the number of the next call, which stays at the greatest u64
abbrev pub next_call : {D : Type 0} → Fuse D → ℕ
next_call f = min (f.calls + 1) (2 ^ 64 - 1)

-- whether the next call fails
abbrev pub blows : {D : Type 0} → Fuse D → Bool
blows f = fails_at f.plan (next_call f)

-- one call more with this answer, by the plan
pub record Burns {D : Type 0} (result : Result (Unit {0}) DeviceError) (old new : Fuse D) : Type 0 where
  pub calls : call_count_of new ≡ next_call old
  pub plan : plan_of new ≡ plan_of old
  pub fails : IsTrue (blows old) → IsErr result

-- the inner device was asked to write these bytes there, and gave some answer of a device: it holds them, or it counts
-- a failure
pub record AsksInner {D : Type 0} (G : sectors.Ghosts D) (at : ℕ) (bytes : List ℕ) (old new : Fuse D) : Type 0 where
  pub answer : Result (Unit {0}) DeviceError
  pub holds : OnOk answer (KeepsWord G new → (state_of G new).reads at ≡ bytes)
  pub failures : CountsFailure answer (inner_failures G old) (inner_failures G new)
