-- Calls that change a file, and how a journal spells them. Our own.
use Rattle.std.specs.Prelude.{◌≡◌, ℕ, ◌-◌, ◌^◌, ◌<◌, true, List, ◌++◌, length, map, reverse}
use Rattle.std.specs.List.{flat_map}
use Rattle.wire.specs.Spelling.{spelling}
use Rattle.sector_device.specs.declared.event.Event.{Event}
use Rattle.sector_device.specs.declared.event.Event.TheVariants.{Written, Synced}
use Rattle.journal_device.specs.declared.call.Call.{Call}
use Rattle.journal_device.specs.declared.call.Call.TheVariants.{Write, Sync}

-- a call in a journal: the number of the sector in four bytes and what it is given, or the greatest number of four
-- bytes alone
abbrev pub spelled_call : Call → List ℕ
spelled_call (Write i bytes) = spelling 4 i ++ bytes
spelled_call Sync = spelling 4 (2 ^ 32 - 1)

-- the journal of some calls, in order
abbrev pub journal_of : List Call → List ℕ
journal_of calls = flat_map spelled_call calls

-- what an open file records of a call that succeeded
abbrev pub event_of : Call → Event
event_of (Write i bytes) = Written i bytes true
event_of Sync = Synced true

-- its record of some calls, the newest first
abbrev pub record_of : List Call → List Event
record_of calls = map event_of (reverse calls)

-- a write is of one of so many sectors, and gives it 512 bytes
abbrev pub IsWithin : ℕ → Call → Type 0
IsWithin size call = (i : ℕ) (bytes : List ℕ) → call ≡ Write i bytes → (i < size) × (length bytes ≡ 512)
