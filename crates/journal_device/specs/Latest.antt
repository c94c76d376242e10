-- What is kept of the sectors that were written. Our own.
use Rattle.std.specs.Prelude.{◌≡◌, ℕ, List, Option, nat_eq}
use Rattle.std.specs.Map.{lookup}
use Rattle.std.specs.Option.{unwrap_or}
use Rattle.sector_device.specs.Device.{Image}

-- what was written to a sector last, where something was
abbrev pub last_at : List (ℕ × List ℕ) → ℕ → Option (List ℕ)
last_at latest i = lookup (nat_eq i) latest

-- each sector shows what was written to it last, or what it had before
abbrev pub ShowsLatest : (before now : Image) → List (ℕ × List ℕ) → Type 0
ShowsLatest before now latest = (i : ℕ) → unwrap_or (last_at latest i) (before i) ≡ now i
