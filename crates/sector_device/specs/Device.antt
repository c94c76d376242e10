-- A device as its candidates, and the images that a crash at each moment may leave. Our own model of a disk.
use Rattle.std.specs.Prelude.{◌≡◌, ◌≢◌, ◌⊎◌, ℕ, ◌+◌, ◌-◌, ◌*◌, ◌/◌, ◌^◌, ◌≤◌, ◌<◌, min, List, length, take, drop}
use Rattle.std.specs.Prelude.{Result, MatchResult}

-- what is in each sector: a list of 512 bytes for each number of a sector
abbrev pub Image : Type 0
Image = ℕ → List ℕ

-- what a device shows at a moment
pub record DeviceState : Type 1 where
  -- how many sectors it has
  pub size : ℕ
  -- what a read of each gives
  pub reads : Image
  -- the candidates of each: the content at the last successful sync, and each one written since
  pub may_hold : ℕ → List ℕ → Type 0
  -- the moment, as a number that doesn't fall
  pub moment : ℕ
  -- the images that a crash at some moment from that one on might have left
  pub left_since : ℕ → Image → Type 0

-- one candidate for each sector, independently
abbrev pub IsImage : DeviceState → Image → Type 0
IsImage s image = (i : ℕ) → s.may_hold i (image i)

-- time goes on: a crash since t might have left what it might have left before, or an image of now
pub record Elapses (old new : DeviceState) : Type 0 where
  pub later : old.moment ≤ new.moment
  pub nothing_else : (t : ℕ) (image : Image) → t ≤ old.moment → new.left_since t image → old.left_since t image
      ⊎ IsImage new image
  pub keeps : (t : ℕ) (image : Image) → t ≤ old.moment → old.left_since t image → new.left_since t image

-- reads and candidates stay
pub record CandidatesStay (old new : DeviceState) : Type 0 where
  pub reads : (i : ℕ) → new.reads i ≡ old.reads i
  pub no_more : (i : ℕ) (b : List ℕ) → new.may_hold i b → old.may_hold i b
  pub no_fewer : (i : ℕ) (b : List ℕ) → old.may_hold i b → new.may_hold i b
  pub time : Elapses old new

-- one sector may have these bytes as a candidate more, and the others stay
pub record WritesSector (at : ℕ) (bytes : List ℕ) (old new : DeviceState) : Type 0 where
  pub others : (i : ℕ) → i ≢ at → new.reads i ≡ old.reads i
  pub no_more : (i : ℕ) (b : List ℕ) → new.may_hold i b → old.may_hold i b ⊎ ((i ≡ at) × (b ≡ bytes))
  pub no_fewer : (i : ℕ) (b : List ℕ) → old.may_hold i b → new.may_hold i b
  pub time : Elapses old new

-- each sector has one candidate, what a read gives
abbrev pub IsSettled : DeviceState → Type 0
IsSettled s = (i : ℕ) (b : List ℕ) → s.may_hold i b → b ≡ s.reads i

-- what a sync leaves, also one that fails
pub record Syncs (old new : DeviceState) : Type 0 where
  pub reads : (i : ℕ) → new.reads i ≡ old.reads i
  pub no_more : (i : ℕ) (b : List ℕ) → new.may_hold i b → old.may_hold i b
  pub time : Elapses old new

-- an error raises the count of failures by one, but at the greatest u64, and a success keeps it
abbrev pub CountsFailure : {T E : Type 0} → Result T E → ℕ → ℕ → Type 0
CountsFailure result old new = MatchResult result (λ _. new ≡ old) (λ _. new ≡ min (old + 1) (2 ^ 64 - 1))

-- a crash at any point since old leaves an image that has P
pub record LeavesOnly (old new : DeviceState) (P : Image → Type 0) : Type 0 where
  pub later : old.moment ≤ new.moment
  pub each : (image : Image) → new.left_since old.moment image → P image
  -- for a run that began earlier
  pub before : (t : ℕ) (image : Image) → t ≤ old.moment → new.left_since t image → old.left_since t image ⊎ P image

-- so far only sectors of a set were written: at each moment each other sector has a candidate of before
pub record WritesWithin (Within : ℕ → Type 0) (old new : DeviceState) : Type 0 where
  pub others : (i : ℕ) → (Within i → ⊥) → new.reads i ≡ old.reads i
  pub no_more : (i : ℕ) (b : List ℕ) → (Within i → ⊥) → new.may_hold i b → old.may_hold i b
  pub leaves : LeavesOnly old new (λ image. (i : ℕ) → (Within i → ⊥) → old.may_hold i (image i))

-- a sector is one of so many neighbours from a first one on
abbrev pub IsInRun : ℕ → ℕ → ℕ → Type 0
IsInRun first count i = (first ≤ i) × (i < first + count)

-- so many whole sectors from a first one on have these bytes, end to end
abbrev pub HasRun : Image → ℕ → List ℕ → Type 0
HasRun reads first bytes = (k : ℕ) → k < length bytes / 512 → take 512 (drop (k * 512) bytes) ≡ reads (first + k)
