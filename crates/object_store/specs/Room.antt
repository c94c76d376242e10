-- What the first fits of a commit look at, and that they fail. Our own.
use Rattle.std.specs.Prelude.{◌≡◌, ℕ, ◌+◌, ◌*◌, ◌<◌, List, [], ◌∷◌, ◌++◌, length, map, take, slice_index}
use Rattle.extents.specs.declared.extent.Extent.{Extent}
use Rattle.extents.specs.Runs.{FreeSectors, AreFreeFrom, IsFirstFit, TakesAway, IsFreeOutside}
use Rattle.superblock.specs.Superblock.{sectors_of}
use Rattle.object_store.specs.Commit.{put_size, put_each, drop_each}

pub record Room : Type 0 where
  -- how many sectors the device has
  pub sectors : ℕ
  -- the sectors that the catalogue and its objects use
  pub used : List Extent
  -- each object's id and number of bytes
  pub sizes : List (ℕ × ℕ)

-- what they look at where nothing is kept yet
abbrev pub empty_room : ℕ → Room
empty_room sectors = record { sectors = sectors; used = []; sizes = [] }

-- how many bytes the catalogue of so many objects has, with a root of so many bytes
abbrev pub catalogue_bytes : ℕ → ℕ → ℕ
catalogue_bytes objects root = 12 + 16 * objects + root

-- how many sectors each put asks for
abbrev pub lengths_of : List (ℕ × List ℕ) → List ℕ
lengths_of puts = map (λ put. sectors_of (length put.1)) puts

-- how many sectors in a row are asked for, where objects of these sizes are kept: for each put in order, and then for
-- the catalogue
abbrev pub sectors_asked_for : List (ℕ × ℕ) → List (ℕ × List ℕ) → List ℕ → List ℕ
sectors_asked_for kept puts root =
    let objects = length (put_each (λ o. o.0) (map put_size puts) kept) in
    lengths_of puts ++ sectors_of (catalogue_bytes objects (length root)) ∷ []

-- Each extent in turn is the first fit of so many sectors, taken from those that are still free.
abbrev pub AreFirstFits : FreeSectors → List ℕ → List Extent → FreeSectors → Type 0
AreFirstFits free [] [] after = after ≡ free
AreFirstFits free (len ∷ lens) (extent ∷ extents) after =
    (next : FreeSectors) × IsFirstFit free len extent × TakesAway free extent next
    × AreFirstFits next lens extents after
AreFirstFits free lens extents after = ⊥

-- the first fits go well up to one, for which no run of free sectors is long enough
pub record FitsFail (free : FreeSectors) (lens : List ℕ) : Type 0 where
  pub before : ℕ
  pub extents : List Extent
  pub left : FreeSectors
  pub within : before < length lens
  pub fits : AreFirstFits free (take before lens) extents left
  pub none : (first : ℕ) → ¬ AreFreeFrom left (slice_index lens before) first

-- the first fits fail, for so many sectors each outside those that are used
pub record LacksPlaces (sectors : ℕ) (used : List Extent) (lens : List ℕ) : Type 0 where
  pub free : FreeSectors
  pub outside : IsFreeOutside sectors used free
  pub fail : FitsFail free lens

-- The first fits fail: there is no room for these puts and then the catalogue, outside what is used.
unfoldable pub LacksRoom : Room → List (ℕ × List ℕ) → List ℕ → List ℕ → Type 0
LacksRoom room puts drops root =
    LacksPlaces room.sectors room.used (sectors_asked_for (drop_each (λ o. o.0) drops room.sizes) puts root)
