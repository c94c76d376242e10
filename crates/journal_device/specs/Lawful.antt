-- What the definitions of a journal mean. Each is proved as the contract of a function of its name.
use Rattle.std.specs.Prelude.{◌≡◌, ◌<◌, ◌^◌, ℕ, List, take, All}
use Rattle.sector_device.specs.Device.{Image, IsImage}
use Rattle.journal_device.specs.Calls.{IsWithin, journal_of}
use Rattle.journal_device.specs.After.{state_after}
use Rattle.journal_device.specs.declared.call.Call.{Call}

-- However many of the calls of a journal were made on the file: what a crash leaves then is what a crash of the device,
-- at some point since it was made over the file, might have left
abbrev pub PrefixIsLeft : Type 0
PrefixIsLeft = (image : List ℕ) (calls : List Call) (n : ℕ) (left : Image)
    → IsImage (state_after image (take n calls)) left → (state_after image calls).left_since 0 left

-- A journal spells one list of calls: whoever reads it finds those that were made
abbrev pub SpellsOneList : Type 0
SpellsOneList = (size : ℕ) (one other : List Call) → size < 2 ^ 32 → All (IsWithin size) one → All (IsWithin size) other
    → journal_of one ≡ journal_of other → one ≡ other
