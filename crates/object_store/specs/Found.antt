-- What was found on a device, and what is nowhere. Our own.
use Rattle.std.specs.Prelude.{◌≡◌, ◌≢◌, ◌⊎◌, ◌<◌, ℕ, ⊤, Bool, true, false, List}
use Rattle.sector_device.specs.Device.{Image, DeviceState, IsSettled}
use Rattle.extents.specs.Extents.{AreLaidOut}
use Rattle.superblock.specs.declared.superblock.Super.{Super}
use Rattle.object_store.specs.declared.catalogue.entry.Entry.{Entry}
use Rattle.object_store.specs.Catalogue.{IsCatalogue}
use Rattle.cube_model.specs.declared.fault.Fault.{Fault}
use Rattle.cube_model.specs.declared.fault.Fault.TheVariants.{NotFormatted, BadLayout, DeviceSize}
use Rattle.object_store.specs.Content.{Content}
use Rattle.object_store.specs.Places.{bytes_at, used_by}
use Rattle.object_store.specs.Reading.{IsNewest}
use Rattle.object_store.specs.Shows.{HasNone, Shows}

-- each sector has one candidate, and the newest superblock names this catalogue
pub record IsFound (s : DeviceState) (super : Super) (entries : List Entry) (root : List ℕ) : Type 0 where
  pub settled : IsSettled s
  pub newest : IsNewest s.reads super
  pub spelled : IsCatalogue (bytes_at s.reads super.catalogue super.bytes) entries root

-- bytes that spell no catalogue whose extents keep the rules of the layout
abbrev pub SpellNoCatalogue : Super → List ℕ → Type 0
SpellNoCatalogue super bytes = (entries : List Entry) (root : List ℕ) → IsCatalogue bytes entries root
    → AreLaidOut super.sectors (used_by super entries) → ⊥

abbrev pub ShowsNothing : ℕ → Image → Type 0
ShowsNothing size image = (c : Content) → Shows size image c → ⊥

-- a refusal that says that nothing readable is there
abbrev pub is_of_layout : Fault → Bool
is_of_layout NotFormatted = true
is_of_layout BadLayout = true
is_of_layout DeviceSize = true
is_of_layout fault = false

-- What a refusal of the layout says of an image of so many sectors: it has no valid superblock, or its newest one is of
-- a device of this size, or it is of another, or the device is too small.
abbrev pub ExplainsRefusal : Fault → ℕ → Image → Type 0
ExplainsRefusal NotFormatted size image = HasNone image
ExplainsRefusal BadLayout size image = (super : Super) × IsNewest image super × (super.sectors ≡ size)
ExplainsRefusal DeviceSize size image = (size < 64) ⊎ ((super : Super) × IsNewest image super × (super.sectors ≢ size))
ExplainsRefusal fault size image = ⊤
