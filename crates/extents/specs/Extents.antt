-- The sectors that lie in extents, and which extents a device may hold. Our own.
use Rattle.std.specs.Prelude.{ℕ, ◌+◌, ◌≤◌, ◌<◌, ◌⊎◌, List, [], ◌∷◌, All, AllPairs}
use Rattle.extents.specs.declared.extent.Extent.{Extent}

-- the sector lies in the extent
abbrev pub Holds : Extent → ℕ → Type 0
Holds extent sector = (extent.first ≤ sector) × (sector < extent.first + extent.len)

-- the sector lies in one of the extents
abbrev pub SomeHolds : List Extent → ℕ → Type 0
SomeHolds [] sector = ⊥
SomeHolds (extent ∷ others) sector = Holds extent sector ⊎ SomeHolds others sector

-- no sector lies in both
abbrev pub AreApart : Extent → Extent → Type 0
AreApart a b = (sector : ℕ) → Holds a sector → Holds b sector → ⊥

-- an extent that a device of so many sectors may hold: sectors 0 and 1 are no part of one
pub record IsInRange (count : ℕ) (extent : Extent) : Type 0 where
  pub begins : 2 ≤ extent.first
  pub not_empty : 0 < extent.len
  pub ends : extent.first + extent.len ≤ count

-- extents that a device may hold together
pub record AreLaidOut (count : ℕ) (extents : List Extent) : Type 0 where
  pub in_range : All (IsInRange count) extents
  pub apart : AllPairs AreApart extents
