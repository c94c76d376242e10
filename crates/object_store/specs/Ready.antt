-- What a store knows of its device.
use Rattle.std.specs.Prelude.{◌≡◌, ℕ, List}
use Rattle.sector_device.specs.Device.{Image, DeviceState, IsSettled}
use Rattle.extents.specs.Extents.{AreLaidOut}
use Rattle.superblock.specs.declared.superblock.Super.{Super}
use Rattle.superblock.specs.Superblock as superblocks
use Rattle.object_store.specs.declared.catalogue.entry.Entry.{Entry}
use Rattle.object_store.specs.Catalogue as catalogues
use Rattle.object_store.specs.Content.{Content}
use Rattle.object_store.specs.Places.{objects_at, used_by}
use Rattle.object_store.specs.Shows.{ShowsBy}

-- the content of a catalogue, at what reads give
abbrev pub content_from : Image → Super → List Entry → List ℕ → Content
content_from reads super entries root =
    record { generation = super.generation; layout = super.layout; objects = objects_at reads entries; root = root }

-- each sector has one candidate, and they show the content
pub record IsReady (s : DeviceState) (super : Super) (entries : List Entry) (root : List ℕ) : Type 0 where
  pub settled : IsSettled s
  pub shows : ShowsBy s.size s.reads (content_from s.reads super entries root) super entries

-- what is kept in memory keeps the rules of the layout, on a device of this size
pub record KeepsLayout (size : ℕ) (super : Super) (entries : List Entry) (root : List ℕ) : Type 0 where
  pub sized : super.sectors ≡ size
  pub proper : superblocks.IsProperSuperblock super
  pub proper_catalogue : catalogues.IsProperCatalogue entries root
  pub laid_out : AreLaidOut size (used_by super entries)
