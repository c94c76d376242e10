-- Where an entry is among entries by ascending id. Our own.
use Rattle.std.specs.Prelude.{◌≡◌, ◌≢◌, ℕ, ◌<◌, ◌≤◌, List, length, slice_index_or}
use Rattle.object_store.specs.declared.catalogue.entry.Entry.{Entry}

-- the entries before a place have lower ids, and those from it on have not
abbrev pub IsPlace : List Entry → ℕ → ℕ → Type 0
IsPlace entries id place =
    (place ≤ length entries) × ((k : ℕ) (d : Entry) → k < place → (slice_index_or entries k d).id < id)
    × ((k : ℕ) (d : Entry) → place ≤ k → k < length entries → id ≤ (slice_index_or entries k d).id)

-- an entry with this id is there
abbrev pub IsEntryAt : List Entry → ℕ → ℕ → Type 0
IsEntryAt entries id place = (place < length entries) × ((d : Entry) → (slice_index_or entries place d).id ≡ id)

-- there is none with this id
abbrev pub IsMissing : List Entry → ℕ → Type 0
IsMissing entries id = (k : ℕ) (d : Entry) → k < length entries → (slice_index_or entries k d).id ≢ id
