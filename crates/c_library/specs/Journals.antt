-- A journal for the bytes of a file, and what the file is once its calls were made. Our own.
use Rattle.std.specs.Prelude.{◌≡◌, ℕ, List, length, take, All}
use Rattle.cube_model.specs.declared.fault.Fault.{Fault}
use Rattle.cube_model.specs.declared.fault.Fault.TheVariants.{Device, Memory}
use Rattle.sector_device.specs.Device.{Image}
use Rattle.sector_device.specs.EventRuns.{sectors_in}
use Rattle.journal_device.specs.After.{state_after}
use Rattle.journal_device.specs.Calls.{IsWithin, journal_of}
use Rattle.journal_device.specs.declared.call.Call.{Call}
use Rattle.object_store.specs.Disk.{Disk, Each}

-- the device that the file of these bytes is after calls, each made with success
abbrev pub device_after : List ℕ → List Call → Disk
device_after image calls = record { keeps_word = Unit {0}; state = state_after image calls; failures = 0 }

-- a crash after any number of the calls leaves an image with P
abbrev pub LeavesAtEach : List ℕ → List Call → (ℕ → Image → Type 0) → Type 0
LeavesAtEach image calls P = (n : ℕ) → Each (device_after image (take n calls)) P

-- calls with P that stay within the file of these bytes
abbrev pub AreCallsWithin : List ℕ → (List Call → Type 0) → List Call → Type 0
AreCallsWithin image P calls = All (IsWithin (length (sectors_in image))) calls × P calls

-- bytes are the journal of such calls
abbrev pub IsJournal : List ℕ → (List Call → Type 0) → List ℕ → Type 0
IsJournal image P journal = (calls : List Call) × (journal ≡ journal_of calls) × AreCallsWithin image P calls

-- the fault to name: a device in memory fails only when out of memory
abbrev pub named_fault : Fault → Fault
named_fault Device = Memory
named_fault fault = fault
