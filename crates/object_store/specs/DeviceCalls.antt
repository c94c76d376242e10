-- What calls leave of a device. Our own.
use Rattle.std.specs.Prelude.{◌≡◌, ℕ, ◌+◌, ◌-◌, ◌^◌, min, Result, MatchResult}
use Rattle.sector_device.specs.declared.device.Sectors.{Ghosts}
use Rattle.sector_device.specs.Device.{WritesWithin}
use Rattle.cube_model.specs.declared.fault.Fault.{Fault}
use Rattle.cube_model.specs.declared.fault.Fault.TheVariants.{Device}

-- calls that write only sectors of a set
pub record WritesDevice {D : Type 0} (g : Ghosts D) (Within : ℕ → Type 0) (old new : D) : Type 0 where
  pub size : (g.state new).size ≡ (g.state old).size
  pub word : g.keeps_word new → g.keeps_word old
  pub only : g.keeps_word new → WritesWithin Within (g.state old) (g.state new)

-- reads and syncs: no sector is written, so reads stay, and each image at each moment is one of those at the start
abbrev pub ReadsDevice : {D : Type 0} → Ghosts D → D → D → Type 0
ReadsDevice g old new = WritesDevice g (λ _. ⊥) old new

-- Device raises the count of failures by one, but at the greatest u64, and a success keeps it
abbrev pub CountsFault : {T : Type 0} → Result T Fault → ℕ → ℕ → Type 0
CountsFault result old new =
    MatchResult result (λ _. new ≡ old) (λ fault. fault ≡ Device → new ≡ min (old + 1) (2 ^ 64 - 1))
