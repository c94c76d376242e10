-- What an image shows: the content that the catalogue of the newest superblock spells. Our own.
use Rattle.std.specs.Prelude.{◌≡◌, ℕ, ◌%◌, ◌<◌, ◌≤◌, List}
use Rattle.sector_device.specs.Device.{Image}
use Rattle.extents.specs.Extents.{AreLaidOut}
use Rattle.superblock.specs.declared.superblock.Super.{Super}
use Rattle.superblock.specs.Superblock.{IsSuperblock}
use Rattle.object_store.specs.declared.catalogue.entry.Entry.{Entry}
use Rattle.object_store.specs.Catalogue as catalogues
use Rattle.object_store.specs.Content.{Content}
use Rattle.object_store.specs.Places.{bytes_at, objects_at, used_by}

-- a superblock and the catalogue that it names spell a content, by the rules of the layout
pub record Spells (size : ℕ) (image : Image) (c : Content) (super : Super) (entries : List Entry) : Type 0 where
  pub numbered : super.generation ≡ c.generation
  pub of_layout : super.layout ≡ c.layout
  -- it was made for a device of this size
  pub sized : super.sectors ≡ size
  pub spelled : catalogues.IsCatalogue (bytes_at image super.catalogue super.bytes) entries c.root
  -- the extents lie after the superblocks and within the device, and share no sector
  pub laid_out : AreLaidOut size (used_by super entries)
  pub objects : c.objects ≡ objects_at image entries

-- The content of the valid superblock with the greater generation. It names the superblock and the entries.
pub record ShowsBy (size : ℕ) (image : Image) (c : Content) (super : Super) (entries : List Entry) : Type 0 where
  pub in_slot : IsSuperblock (c.generation % 2) (image (c.generation % 2)) super
  pub newest : (slot : ℕ) → slot < 2 → (other : Super) → IsSuperblock slot (image slot) other
      → other.generation ≤ c.generation
  pub spells : Spells size image c super entries

abbrev pub Shows : ℕ → Image → Content → Type 0
Shows size image c = (super : Super) × (entries : List Entry) × ShowsBy size image c super entries

-- no slot has a valid superblock
abbrev pub HasNone : Image → Type 0
HasNone image = (slot : ℕ) → slot < 2 → (super : Super) → IsSuperblock slot (image slot) super → ⊥
