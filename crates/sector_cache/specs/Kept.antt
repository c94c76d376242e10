-- What a cache keeps of a device: the bytes of some of its sectors. Our own.
use Rattle.std.specs.Prelude.{◌≡◌, ◌≢◌, ℕ, List, Option, Some, None, IsSome, IfSome, nat_eq}
use Rattle.std.specs.Map.{lookup}
use Rattle.sector_device.specs.Device.{Image, IsInRun}

-- numbers of sectors with their bytes, the one used last first
abbrev pub Kept : Type 0
Kept = List (ℕ × List ℕ)

-- what is kept of a sector
abbrev pub kept_at : Kept → ℕ → Option (List ℕ)
kept_at kept i = lookup (nat_eq i) kept

-- each sector that is kept has the bytes that a read of the device gives
abbrev pub IsCoherent : Image → Kept → Type 0
IsCoherent reads kept = (i : ℕ) (b : List ℕ) → kept_at kept i ≡ Some b → b ≡ reads i

-- the same is kept of each sector
abbrev pub IsSameKept : Kept → Kept → Type 0
IsSameKept old new = (i : ℕ) → kept_at new i ≡ kept_at old i

-- of one sector these bytes are kept, or nothing where nothing was, and of the others nothing that was not
pub record Keeps (at : ℕ) (bytes : List ℕ) (old new : Kept) : Type 0 where
  pub here : IfSome (kept_at new at) (λ b. b ≡ bytes)
  pub stays : IsSome (kept_at old at) → kept_at new at ≡ Some bytes
  pub others : (i : ℕ) (b : List ℕ) → i ≢ at → kept_at new i ≡ Some b → kept_at old i ≡ Some b

-- of one sector nothing is kept, and of the others what was
pub record Forgets (at : ℕ) (old new : Kept) : Type 0 where
  pub here : kept_at new at ≡ None
  pub others : (i : ℕ) → i ≢ at → kept_at new i ≡ kept_at old i

-- of so many neighbouring sectors from a first one on nothing is kept, and of the others what was
pub record ForgetsRun (first count : ℕ) (old new : Kept) : Type 0 where
  pub here : (i : ℕ) → IsInRun first count i → kept_at new i ≡ None
  pub others : (i : ℕ) → (IsInRun first count i → ⊥) → kept_at new i ≡ kept_at old i
