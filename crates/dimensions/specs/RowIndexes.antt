-- How the row index of a key is found: it is computed where the keys are consecutive, read in entries for the numbers
-- from a first key on, or looked up by hash.
use Rattle.std.specs.Prelude.{◌≡◌, ◌==◌, ℕ, zero, suc, ◌+◌, ◌-◌, ◌<◌, Bool, ◌&&◌, nat_eq, nat_le, nat_lt, List, Option}
use Rattle.std.specs.Prelude.{Some, None, if◌then◌else◌, length, position, slice_index, slice_index_or}
use Rattle.std.specs.HashMap as hash
use Rattle.dimensions.specs.declared.key_rows.Lookup.{Lookup}
use Rattle.dimensions.specs.declared.key_rows.Lookup.TheVariants.{Consecutive, Direct, Hashed}

-- keys that are consecutive from a first one
abbrev pub CountOn : ℕ → List ℕ → Type 0
CountOn first keys = (row : ℕ) → row < length keys → slice_index keys row ≡ first + row

-- there is an entry for a key among those from a first key on
abbrev pub has_entry : ℕ → List ℕ → ℕ → Bool
has_entry first entries key = nat_le first key && nat_lt (key - first) (length entries)

-- an entry is 0 for a key that is not there, and otherwise one more than the key's row index
abbrev pub entry_row : ℕ → Option ℕ
entry_row zero = None
entry_row (suc row) = Some row

-- the row index of a key in entries from a first key on, if it is there
abbrev pub row_entered : ℕ → List ℕ → ℕ → Option ℕ
row_entered first entries key = if has_entry first entries key then entry_row (slice_index_or entries (key - first) 0)
    else None

-- each key has the row index of its first row, and nothing else has one
abbrev pub AreRowIndexes : (ℕ → Option ℕ) → List ℕ → Type 0
AreRowIndexes rows keys = (key : ℕ) → rows key ≡ position (λ other. other == key) keys

-- the rows of keys are found
abbrev pub FindsRows : Lookup → List ℕ → Type 0
FindsRows (Consecutive first) keys = CountOn first keys
FindsRows (Direct first entries) keys = AreRowIndexes (row_entered first entries.items) keys
FindsRows (Hashed rows) keys = AreRowIndexes (hash.get nat_eq rows) keys
