-- How the catalogue of a store is spelled, and which rules it keeps. Our layout.
use Rattle.std.specs.Prelude.{◌≡◌, ℕ, ◌^◌, ◌<◌, ◌≤◌, List, ◌++◌, length, codes, All}
use Rattle.std.specs.List.{AllPairs, flat_map}
use Rattle.wire.specs.Limits.{most_object_bytes, most_objects, most_root_bytes}
use Rattle.wire.specs.Spelling.{spelling}
use Rattle.object_store.specs.declared.catalogue.entry.Entry.{Entry}

-- the 16 bytes of an entry
abbrev pub entry_of : Entry → List ℕ
entry_of entry = spelling 4 entry.id ++ (spelling 4 entry.first ++ spelling 8 entry.bytes)

-- the 12 bytes before the entries: the name, how many entries, how many bytes of the root
abbrev pub catalogue_header : ℕ → ℕ → List ℕ
catalogue_header entries root = codes "CAT1" ++ (spelling 4 entries ++ spelling 4 root)

-- the bytes of a catalogue: the header, the entries one after the other, the root
abbrev pub catalogue_of : List Entry → List ℕ → List ℕ
catalogue_of entries root = catalogue_header (length entries) (length root) ++ (flat_map entry_of entries ++ root)

-- the numbers of an entry fit its fields
pub record FitsFields (entry : Entry) : Type 0 where
  pub id : entry.id < 2 ^ 32
  pub first : entry.first < 2 ^ 32
  pub bytes : entry.bytes < 2 ^ 64

-- the rule of an entry: an object has bytes, and not too many
pub record IsProperEntry (entry : Entry) : Type 0 where
  pub least_bytes : 1 ≤ entry.bytes
  pub most_bytes : entry.bytes ≤ most_object_bytes

-- each id is below those after it
abbrev pub IdsAscend : List Entry → Type 0
IdsAscend entries = AllPairs (λ one other. one.id < other.id) entries

-- the rules of a catalogue
pub record IsProperCatalogue (entries : List Entry) (root : List ℕ) : Type 0 where
  pub fit : All FitsFields entries
  pub each : All IsProperEntry entries
  pub ascending : IdsAscend entries
  pub most_entries : length entries ≤ most_objects
  pub most_root : length root ≤ most_root_bytes

-- the bytes are those of a proper catalogue: there is no other spelling of it
pub record IsCatalogue (bytes : List ℕ) (entries : List Entry) (root : List ℕ) : Type 0 where
  pub spelled : bytes ≡ catalogue_of entries root
  pub proper : IsProperCatalogue entries root
