-- Neighbouring sectors that are read or written at once. Our own.
use Rattle.std.specs.Prelude.{ℕ, suc, ◌/◌, Bool, List, [], ◌∷◌, length}
use Rattle.std.specs.Simd.{first_chunks}
use Rattle.sector_device.specs.declared.event.Event.{Event}
use Rattle.sector_device.specs.declared.event.Event.TheVariants.{Read, Written}

-- the whole sectors that bytes are, end to end
abbrev pub sectors_in : List ℕ → List (List ℕ)
sectors_in bytes = first_chunks 512 (length bytes / 512) bytes

-- the record with a read of each sector, the first of them at a number
abbrev pub with_reads : ℕ → List (List ℕ) → List Event → List Event
with_reads first [] events = events
with_reads first (bytes ∷ others) events = with_reads (suc first) others (Read first bytes ∷ events)

-- the record with a write of each sector, the first of them at a number, which all went well or all failed
abbrev pub with_writes : ℕ → List (List ℕ) → Bool → List Event → List Event
with_writes first [] ok events = events
with_writes first (bytes ∷ others) ok events = with_writes (suc first) others ok (Written first bytes ok ∷ events)
