-- What is read from the front of bytes, before any rule is looked at. Our own.
use Rattle.std.specs.Prelude.{◌≡◌, ℕ, ◌+◌, ◌*◌, ◌^◌, ◌<◌, ◌≤◌, List, ◌++◌, length, All}
use Rattle.std.specs.List.{flat_map}
use Rattle.wire.specs.Limits.{most_objects, most_root_bytes}
use Rattle.object_store.specs.declared.catalogue.entry.Entry.{Entry}
use Rattle.object_store.specs.Catalogue.{FitsFields, entry_of, catalogue_header}

-- a header keeps the limits, and a catalogue with it has so many bytes
pub record IsCatalogueHeader (bytes entries root : ℕ) : Type 0 where
  pub most_entries : entries ≤ most_objects
  pub most_root : root ≤ most_root_bytes
  pub whole : bytes ≡ 12 + 16 * entries + root

-- an entry was read from the front of `old`, and `new` is left
pub record ReadsEntry (old new : List ℕ) (entry : Entry) : Type 0 where
  pub fits : FitsFields entry
  pub spelled : old ≡ entry_of entry ++ new
  pub left : length old ≡ 16 + length new

-- entries were read from the front of `old`, and `new` is left
pub record ReadsEntries (count : ℕ) (old new : List ℕ) (entries : List Entry) : Type 0 where
  pub fit : All FitsFields entries
  pub many : length entries ≡ count
  pub spelled : old ≡ flat_map entry_of entries ++ new

-- a header was read from the front of `old`, and `new` is left
pub record ReadsCatalogueHeader (old new : List ℕ) (entries root : ℕ) : Type 0 where
  pub entries_fit : entries < 2 ^ 32
  pub root_fits : root < 2 ^ 32
  pub spelled : old ≡ catalogue_header entries root ++ new
  pub left : length old ≡ 12 + length new
