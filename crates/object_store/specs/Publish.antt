-- What a commit is to write, and what a crash within its writes leaves. Our own.
use Rattle.std.specs.Prelude.{◌≡◌, ◌≢◌, ◌⊎◌, ℕ, ◌+◌, ◌%◌, List, ◌∷◌, length, map}
use Rattle.sector_device.specs.Device.{Image}
use Rattle.extents.specs.declared.extent.Extent.{Extent}
use Rattle.extents.specs.Extents.{SomeHolds, AreLaidOut}
use Rattle.superblock.specs.declared.superblock.Super.{Super}
use Rattle.superblock.specs.Superblock as superblocks
use Rattle.object_store.specs.declared.catalogue.entry.Entry.{Entry}
use Rattle.object_store.specs.Catalogue as catalogues
use Rattle.object_store.specs.declared.staged.Staged.{Staged}
use Rattle.object_store.specs.Commit.{put_size, put_each, drop_each}
use Rattle.object_store.specs.Places.{bytes_at, extent_of, extents_of, objects_at, sizes_at, used_by}

-- the entries are for these objects, in order
abbrev pub AreFor : List Entry → List (ℕ × List ℕ) → Type 0
AreFor entries puts = sizes_at entries ≡ map put_size puts

-- the sectors that a commit writes before its superblock
abbrev pub written_by : Staged → List Extent
written_by staged = extent_of staged.superblock.catalogue staged.superblock.bytes ∷ extents_of staged.placed.items

-- A commit staged for puts outside the sectors in use: entries for them and the kept ones, their catalogue, and its
-- superblock.
pub record IsStagedForPuts (sectors : ℕ) (used : List Extent) (kept : List Entry) (puts : List (ℕ × List ℕ))
    (root : List ℕ)
    (generation layout : ℕ) (staged : Staged) : Type 0 where
  pub sized : staged.superblock.sectors ≡ sectors
  pub numbered : staged.superblock.generation ≡ generation
  pub of_layout : staged.superblock.layout ≡ layout
  pub proper : superblocks.IsProperSuperblock staged.superblock
  pub places : AreFor staged.placed.items puts
  pub entries : staged.entries.items ≡ put_each (λ e. e.id) staged.placed.items kept
  pub same_root : staged.root.items ≡ root
  pub spelled : catalogues.IsCatalogue staged.catalogue.items staged.entries.items root
  pub bytes : staged.superblock.bytes ≡ length staged.catalogue.items
  -- what is written lies outside what is used
  pub written : AreLaidOut sectors (written_by staged)
  pub apart : (sector : ℕ) → SomeHolds (written_by staged) sector → SomeHolds used sector → ⊥
  pub laid_out : AreLaidOut sectors (used_by staged.superblock staged.entries.items)

-- a commit staged over what is there
abbrev pub IsStagedOver : Super → List Entry → List (ℕ × List ℕ) → List ℕ → List ℕ → ℕ → Staged → Type 0
IsStagedOver super entries puts drops root layout staged =
    IsStagedForPuts super.sectors (used_by super entries) (drop_each (λ e. e.id) drops entries) puts root
    (super.generation + 1)
    layout staged

-- a staged commit of these puts
pub record IsSomeStagedOver (super : Super) (entries : List Entry) (puts : List (ℕ × List ℕ)) (staged : Staged) : Type 0
  where
    pub drops : List ℕ
    pub root : List ℕ
    pub layout : ℕ
    pub is_staged : IsStagedOver super entries puts drops root layout staged

-- the slot of a staged superblock
abbrev pub staged_slot : Staged → ℕ
staged_slot staged = staged.superblock.generation % 2

-- an image that is as another, outside some sectors
abbrev pub IsUnchangedOutside : List Extent → Image → Image → Type 0
IsUnchangedOutside written was image = (i : ℕ) → (SomeHolds written i → ⊥) → image i ≡ was i

-- an image with the superblock of a staged commit, the puts in their places and the catalogue, that is else as another
-- outside the written sectors
pub record HasWritten (staged : Staged) (puts : List (ℕ × List ℕ)) (was image : Image) : Type 0 where
  pub block : image (staged_slot staged) ≡ superblocks.sector_of staged.superblock
  pub others : (i : ℕ) → (SomeHolds (written_by staged) i → ⊥) → i ≢ staged_slot staged → image i ≡ was i
  pub objects : objects_at image staged.placed.items ≡ puts
  pub catalogue : bytes_at image staged.superblock.catalogue staged.superblock.bytes ≡ staged.catalogue.items

-- what a crash within the writes leaves: all but the written sectors as it was, or all that was to be written
abbrev pub IsEither : Staged → List (ℕ × List ℕ) → Image → Image → Type 0
IsEither staged puts was image = IsUnchangedOutside (written_by staged) was image ⊎ HasWritten staged puts was image
