-- Where a catalogue has its objects, and what is there. Our layout.
use Rattle.std.specs.Prelude.{ℕ, zero, suc, List, [], ◌∷◌, ◌++◌, take, map}
use Rattle.sector_device.specs.Device.{Image}
use Rattle.extents.specs.declared.extent.Extent.{Extent}
use Rattle.superblock.specs.declared.superblock.Super.{Super}
use Rattle.superblock.specs.Superblock.{sectors_of}
use Rattle.object_store.specs.declared.catalogue.entry.Entry.{Entry}

-- so many sectors put end to end
abbrev pub sectors_bytes : Image → ℕ → ℕ → List ℕ
sectors_bytes image at zero = []
sectors_bytes image at (suc n) = image at ++ sectors_bytes image (suc at) n

-- so many bytes, from the front of a sector on
abbrev pub bytes_at : Image → ℕ → ℕ → List ℕ
bytes_at image first bytes = take bytes (sectors_bytes image first (sectors_of bytes))

-- the sectors of so many bytes
abbrev pub extent_of : ℕ → ℕ → Extent
extent_of first bytes = record { first = first; len = sectors_of bytes }

abbrev pub extents_of : List Entry → List Extent
extents_of entries = map (λ e. extent_of e.first e.bytes) entries

-- an object with its bytes
abbrev pub object_at : Image → Entry → ℕ × List ℕ
object_at image e = (e.id, bytes_at image e.first e.bytes)

abbrev pub objects_at : Image → List Entry → List (ℕ × List ℕ)
objects_at image entries = map (object_at image) entries

-- the sectors of the catalogue and of the objects
abbrev pub used_by : Super → List Entry → List Extent
used_by super entries = extent_of super.catalogue super.bytes ∷ extents_of entries

-- an object's id and how many bytes it has
abbrev pub size_at : Entry → ℕ × ℕ
size_at e = (e.id, e.bytes)

abbrev pub sizes_at : List Entry → List (ℕ × ℕ)
sizes_at entries = map size_at entries
