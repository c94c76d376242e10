-- A disk in memory: what is in it, and what each write and sync since it began took away, the newest first. Our own.
use Rattle.std.specs.Prelude.{◌≡◌, ℕ, zero, suc, ◌-◌, ◌<◌, ◌≤◌, ◌==◌, if◌then◌else◌, List, [], ◌∷◌, length, drop}
use Rattle.std.specs.Prelude.{slice_index_or, slice_set, Contains}
use Rattle.sector_device.specs.Device.{Image, DeviceState}
use Rattle.sector_device.specs.declared.change.Change.{Change}
use Rattle.sector_device.specs.declared.change.Change.TheVariants.{Replaced, Synced}

-- what a read of each sector gives
abbrev pub content : List (List ℕ) → Image
content sectors i = slice_index_or sectors i []

-- what writes to a sector replaced since the last sync, the newest first
abbrev pub replaced : List Change → ℕ → List (List ℕ)
replaced [] i = []
replaced (Synced ∷ earlier) i = []
replaced (Replaced at old ∷ earlier) i = if i == at then old ∷ replaced earlier i else replaced earlier i

-- the candidates of a sector, the newest first
abbrev pub candidates : List (List ℕ) → List Change → ℕ → List (List ℕ)
candidates sectors log i = content sectors i ∷ replaced log i

abbrev pub MayHold : List (List ℕ) → List Change → ℕ → List ℕ → Type 0
MayHold sectors log i b = Contains (candidates sectors log i) b

-- what was in the disk before a change
abbrev pub before : Change → List (List ℕ) → List (List ℕ)
before (Replaced at old) sectors = slice_set sectors at old
before Synced sectors = sectors

-- what was in the disk before the last n changes
abbrev pub before_last : ℕ → List (List ℕ) → List Change → List (List ℕ)
before_last zero sectors log = sectors
before_last (suc n) sectors [] = sectors
before_last (suc n) sectors (change ∷ earlier) = before_last n (before change sectors) earlier

-- an image of now, or of one of the n moments before
pub record LeftWithin (n : ℕ) (sectors : List (List ℕ)) (log : List Change) (image : Image) : Type 0 where
  -- how many changes ago
  pub ago : ℕ
  pub within : ago ≤ n
  pub may : (i : ℕ) → MayHold (before_last ago sectors log) (drop ago log) i (image i)

abbrev pub memory_state : List (List ℕ) → List Change → DeviceState
memory_state sectors log = record {
  size = length sectors;
  reads = content sectors;
  may_hold = MayHold sectors log;
  moment = length log;
  left_since = λ t image. LeftWithin (length log - t) sectors log image;
}

-- each candidate has 512 bytes
abbrev pub AreWhole : List (List ℕ) → List Change → Type 0
AreWhole sectors log = (i : ℕ) (b : List ℕ) → i < length sectors → MayHold sectors log i b → length b ≡ 512
