-- The free sectors of a device, as the list of their runs. Our own.
use Rattle.std.specs.Prelude.{◌≡◌, ℕ, ◌+◌, ◌-◌, ◌≤◌, ◌<◌, ◌↔◌, ◌⊎◌, nat_lt, if◌then◌else◌, List, [], ◌∷◌}
use Rattle.extents.specs.declared.extent.Extent.{Extent}
use Rattle.extents.specs.Extents.{Holds, SomeHolds}

-- how many sectors a device has, and the runs of its free ones
pub record FreeSectors : Type 0 where
  pub count : ℕ
  pub runs : List Extent

-- the sector is free
abbrev pub IsFree : FreeSectors → ℕ → Type 0
IsFree free sector = SomeHolds free.runs sector

-- so many sectors in a row are free, from this one on
abbrev pub AreFreeFrom : FreeSectors → ℕ → ℕ → Type 0
AreFreeFrom free len first = (sector : ℕ) → first ≤ sector → sector < first + len → IsFree free sector

-- the first place where so many sectors in a row are free, which is the front of the first run that is long enough
pub record IsFirstFit (free : FreeSectors) (len : ℕ) (extent : Extent) : Type 0 where
  pub asked : extent.len ≡ len
  pub free_sectors : AreFreeFrom free len extent.first
  pub none_before : (first : ℕ) → AreFreeFrom free len first → extent.first ≤ first

-- just the sectors of the extent are no longer free
pub record TakesAway (old : FreeSectors) (extent : Extent) (new : FreeSectors) : Type 0 where
  pub count : new.count ≡ old.count
  pub sectors : (sector : ℕ) → IsFree new sector ↔ (IsFree old sector × (¬ Holds extent sector))

-- just the sectors of the extent are free as well
pub record GivesBack (old : FreeSectors) (extent : Extent) (new : FreeSectors) : Type 0 where
  pub count : new.count ≡ old.count
  pub sectors : (sector : ℕ) → IsFree new sector ↔ (IsFree old sector ⊎ Holds extent sector)

-- the sectors from 2 up to the count that lie in none of the extents are those of the runs
abbrev pub IsRest : ℕ → List Extent → List Extent → Type 0
IsRest count used runs = (sector : ℕ) → SomeHolds runs sector
    ↔ ((2 ≤ sector) × (sector < count) × (¬ SomeHolds used sector))

-- the free sectors are those from 2 up to the count that lie in none of the extents
pub record IsFreeOutside (count : ℕ) (used : List Extent) (free : FreeSectors) : Type 0 where
  pub of_device : free.count ≡ count
  pub sectors : IsRest count used free.runs

-- runs in ascending order, which begin at low or after it and end before high: none is empty, and between two lies a
-- sector that is in none
abbrev pub AreRuns : ℕ → ℕ → List Extent → Type 0
AreRuns low high [] = Unit {0}
AreRuns low high (run ∷ others) =
    (low ≤ run.first) × (0 < run.len) × (run.first + run.len < high) × AreRuns (run.first + run.len + 1) high others

-- the run from a sector up to another, if there is a sector between them
abbrev pub gap : ℕ → ℕ → List Extent
gap from to = if nat_lt from to then record { first = from; len = to - from } ∷ [] else []
