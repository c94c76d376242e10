-- A file before, within and after the calls of a journal.
use Rattle.std.proofs.Common.{◌≡◌, ℕ, List, [], length, sym, subst}
use Rattle.sector_device.specs.Device.{Image, LeavesOnly}
use Rattle.sector_device.proofs.MemoryLaws.{read_may_stay}
use Rattle.sector_device.specs.Memory.{MayHold}
use Rattle.sector_device.specs.EventRuns.{sectors_in}
use Rattle.c_library.specs.Images.{device_over}
use Rattle.c_library.specs.Journals.{LeavesAtEach, device_after}
use Rattle.journal_device.specs.After.{state_after}
use Rattle.journal_device.specs.Lawful.{PrefixIsLeft}
use Rattle.journal_device.specs.declared.call.Call.{Call}
use Rattle.object_store.specs.Disk.{Each}

-- before any call the file shows what its bytes show
pub at_first : (image : List ℕ) (calls : List Call) (P : ℕ → Image → Type 0) → calls ≡ [] → Each (device_over image) P
    → Each (device_after image calls) P
at_first image calls P none all = subst (λ (l : List Call). Each (device_after image l) P) (sym none)
    (λ word left is. all tt left
    (λ i. subst (λ (b : List ℕ). MayHold (sectors_in image) [] i b) (sym (is i))
    (read_may_stay (sectors_in image) [] i)))

-- a crash after any of the calls leaves what a crash of the device might have left since there were none
pub at_each : PrefixIsLeft → (image : List ℕ) (first calls : List Call) (P : ℕ → Image → Type 0) → first ≡ []
    → LeavesOnly (state_after image first) (state_after image calls) (P (length (sectors_in image)))
    → LeavesAtEach image calls P
at_each law image first calls P none leaves n word left is =
    let begun : LeavesOnly (state_after image []) (state_after image calls) (P (length (sectors_in image))) =
    subst (λ (l : List Call). LeavesOnly (state_after image l) (state_after image calls)
    (P (length (sectors_in image)))) none leaves in
    begun.each left (law image calls n left is)
