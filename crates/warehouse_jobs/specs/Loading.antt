-- What a load makes of a warehouse, and what it writes. Our own.
use Rattle.std.specs.Prelude.{◌≡◌, ◌≢◌, ◌⊎◌, ◌<◌, ◌≤◌, ⊤, ℕ, ◌+◌, nat_le, if◌then◌else◌, true, List, [], ◌∷◌, ◌++◌}
use Rattle.std.specs.Prelude.{length, map, slice_get, IfSome, Option, Some, Result, Ok, Err}
use Rattle.std.specs.Io.KnownBytes.{Appends, Keeps}
use Rattle.sector_device.specs.declared.device.Sectors.{Ghosts}
use Rattle.batch_loader.specs.Unread.{Unread}
use Rattle.cube_model.specs.declared.fault.Fault.{Fault}
use Rattle.cube_model.specs.declared.fault.Fault.TheVariants.{Memory, Input, Output, Device, Repeated}
use Rattle.cube_model.specs.declared.rows.LineOrder.{LineOrder}
use Rattle.object_store.specs.Content.{Content}
use Rattle.object_store.specs.Disk.{Leaves}
use Rattle.ssb_eval.specs.declared.unknown.UnknownKey.{UnknownKey}
use Rattle.ssb_reports.specs.Writing.{AppendsBeginning}
use Rattle.warehouse_objects.specs.Facts.{AdmitsBatch}
use Rattle.warehouse_objects.specs.Warehouse.{Warehouse, loaded}
use Rattle.warehouse_objects.specs.Represents.{Represents}
use Rattle.warehouse.specs.declared.session.Session.{Session}
use Rattle.warehouse.specs.Comparing.{numbered}
use Rattle.warehouse.specs.Session.{IsAt, disk_of, has_failed, SubmitRefuses}
use Rattle.warehouse_jobs.specs.declared.taken.Taken.{Taken}
use Rattle.warehouse_jobs.specs.declared.taken.Taken.TheVariants.{Added, Skipped}
use Rattle.warehouse_jobs.specs.Cutting.{AreCutFrom, IsNextBatch, IsFirstLineFault}
use Rattle.warehouse_jobs.specs.Printed.{batch_line, count_line}

-- the fact rows of a load, line by line, and what is kept of the batch that was read last: how many rows it has, and a
-- key that no row of its dimension has
pub record LoadLines : Type 0 where
  pub lines : Unread
  pub rows : ℕ
  pub unknown : Option UnknownKey

-- a batch that was done was passed over where its number was there already
abbrev pub taken_of : Warehouse → ℕ → Taken
taken_of w number = if nat_le number (length w.batches) then Skipped else Added

-- the warehouse after it
abbrev pub after_taking : Taken → Warehouse → List LineOrder → Warehouse
after_taking Added w rows = loaded w rows
after_taking Skipped w rows = w

abbrev pub with_batch : Warehouse → ℕ → List LineOrder → Warehouse
with_batch w number rows = after_taking (taken_of w number) w rows

-- the warehouse after some batches, the first of them with a number
abbrev pub with_batches : Warehouse → ℕ → List (List LineOrder) → Warehouse
with_batches w number [] = w
with_batches w number (rows ∷ batches) = with_batches (with_batch w number rows) (number + 1) batches

-- the line of a batch
abbrev pub batch_line_in : Warehouse → ℕ → List LineOrder → List ℕ
batch_line_in w number rows = batch_line number (length rows) (taken_of w number)

-- the lines of some batches, the first of them with a number
abbrev pub batch_lines_in : Warehouse → ℕ → List (List LineOrder) → List ℕ
batch_lines_in w number [] = []
batch_lines_in w number (rows ∷ batches) =
    batch_line_in w number rows ++ batch_lines_in (with_batch w number rows) (number + 1) batches

-- The device in one batch of a load. It represents the warehouse after it then, and until then this or the one before.
-- A batch that is passed over has exactly the rows of the stored one, in the same order
pub record DeviceTakesBatch {D : Type 0} (g : Ghosts D) (w : Warehouse) (number : ℕ) (rows : List LineOrder)
    (old new : Session D g) (taken : Taken) : Type 0 where
  pub taken_is : taken ≡ taken_of w number
  pub follows : length w.batches < number → AdmitsBatch w number rows
  pub same : number ≤ length w.batches → numbered w.batches number ≡ Some rows
  pub at : IsAt g new (with_batch w number rows)
  pub leaves : Leaves (disk_of g old) (disk_of g new) (λ c. Represents c w ⊎ Represents c (with_batch w number rows))

-- Why a batch is refused where the device has not failed: the batch of its number is another one; or there is no memory
-- to compare the two; or there is none of its number, and a submit is refused
abbrev pub BatchRefuses : {D : Type 0} (g : Ghosts D) → Session D g → Warehouse → ℕ → List LineOrder → Fault → Type 0
BatchRefuses g session w number rows fault =
    ((fault ≡ Repeated) × (number ≤ length w.batches) × (numbered w.batches number ≢ Some rows))
    ⊎ (((fault ≡ Memory) × (number ≤ length w.batches))
    ⊎ ((length w.batches < number) × SubmitRefuses g session w number rows fault))

-- A batch is refused. The warehouse stays, unless the device failed: it may then have the batch, where that is
-- admissible
pub record LoadIsRefused {D : Type 0} (g : Ghosts D) (w : Warehouse) (number : ℕ) (rows : List LineOrder)
    (old new : Session D g) (fault : Fault) : Type 0 where
  pub cause : ((fault ≡ Device) × (has_failed new ≡ true)) ⊎ (BatchRefuses g old w number rows fault × IsAt g new w)
  pub leaves : Leaves (disk_of g old) (disk_of g new)
      (λ c. Represents c w ⊎ (AdmitsBatch w number rows × Represents c (loaded w rows)))

-- One batch of a load did not end well: it is refused, and nothing is written. Or the device has it, and the writer
-- fails in its line
abbrev pub FailsInBatch : {D : Type 0} (g : Ghosts D) → Warehouse → ℕ → List LineOrder → (old new : Session D g)
    → (before after : Option (List ℕ)) → Fault → Type 0
FailsInBatch g w number rows old new before after fault =
    (LoadIsRefused g w number rows old new fault × Keeps before after)
    ⊎ ((fault ≡ Output) × DeviceTakesBatch g w number rows old new (taken_of w number)
    × AppendsBeginning before after (batch_line_in w number rows))

-- one batch of a load: once the device has it, its line is written
abbrev pub DoesBatch : {D A : Type 0} (g : Ghosts D) → Warehouse → ℕ → List LineOrder → (old new : Session D g)
    → (before after : Option (List ℕ)) → Result A Fault → Type 0
DoesBatch g w number rows old new before after (Ok done) =
    DeviceTakesBatch g w number rows old new (taken_of w number) × Appends before after (batch_line_in w number rows)
DoesBatch g w number rows old new before after (Err fault) = FailsInBatch g w number rows old new before after fault

-- A batch of a load that was done: its rows, and the session and what the writer had once its line was written
pub record Done {D : Type 0} (g : Ghosts D) : Type 0 where
  pub rows : List LineOrder
  pub session : Session D g
  pub written : Option (List ℕ)

-- the rows of some batches that were done, and the session and what the writer had after the last of them
abbrev pub batches_of : {D : Type 0} {g : Ghosts D} → List (Done g) → List (List LineOrder)
batches_of trace = map (λ one. one.rows) trace

abbrev pub session_after : {D : Type 0} {g : Ghosts D} → Session D g → List (Done g) → Session D g
session_after old [] = old
session_after old (one ∷ later) = session_after one.session later

abbrev pub written_after : {D : Type 0} {g : Ghosts D} → Option (List ℕ) → List (Done g) → Option (List ℕ)
written_after before [] = before
written_after before (one ∷ later) = written_after one.written later

-- Batches are done one after the other: the device takes each in, and then its line is written, while nothing happens
-- to the device
abbrev pub DoesAll : {D : Type 0} (g : Ghosts D) → (old : Session D g) → Option (List ℕ) → Warehouse → ℕ → List (Done g)
    → Type 0
DoesAll g old before w number [] = ⊤
DoesAll g old before w number (one ∷ later) =
    DeviceTakesBatch g w number one.rows old one.session (taken_of w number)
    × Appends before one.written (batch_line_in w number one.rows)
    × DoesAll g one.session one.written (with_batch w number one.rows) (number + 1) later

-- no line was left, and the number of batches is written
pub record Closes {D : Type 0} (g : Ghosts D) (text : Option (List ℕ)) (left : List (List (List ℕ))) (w : Warehouse)
    (old new : Session D g) (before after : Option (List ℕ)) : Type 0 where
  pub none : IfSome text (λ _. left ≡ [])
  pub same : new ≡ old
  pub written : Appends before after (count_line (length w.batches))

-- or the writer failed in that line
pub record CannotClose {D : Type 0} (g : Ghosts D) (text : Option (List ℕ)) (left : List (List (List ℕ)))
    (w : Warehouse) (old new : Session D g) (before after : Option (List ℕ)) (fault : Fault) : Type 0 where
  pub failed : fault ≡ Output
  pub none : IfSome text (λ _. left ≡ [])
  pub same : new ≡ old
  pub written : AppendsBeginning before after (count_line (length w.batches))

-- the next batch could not be read: when out of memory, since the reader failed, or for the first fault of its lines
pub record CannotRead {D : Type 0} (g : Ghosts D) (text : Option (List ℕ)) (next : ℕ) (left : List (List (List ℕ)))
    (old new : Session D g) (before after : Option (List ℕ)) (fault : Fault) : Type 0 where
  pub cause : (fault ≡ Memory) ⊎ ((fault ≡ Input) ⊎ IfSome text (λ _. IsFirstLineFault next left fault))
  pub same : new ≡ old
  pub nothing : Keeps before after

-- the next batch was read, and did not end well
pub record EndsInBatch {D : Type 0} (g : Ghosts D) (text : Option (List ℕ)) (next : ℕ) (left : List (List (List ℕ)))
    (w : Warehouse) (number : ℕ) (old new : Session D g) (before after : Option (List ℕ)) (fault : Fault) : Type 0 where
  pub rows : List LineOrder
  pub read : IfSome text (λ _. IsNextBatch next left rows)
  pub ends : FailsInBatch g w number rows old new before after fault

-- how a load ends after the batches that were done, where these parts of the text are left
abbrev pub Ends : {D A : Type 0} (g : Ghosts D) → Option (List ℕ) → ℕ → List (List (List ℕ)) → Warehouse → ℕ
    → (old new : Session D g) → (before after : Option (List ℕ)) → Result A Fault → Type 0
Ends g text next left w number old new before after (Ok done) = Closes g text left w old new before after
Ends g text next left w number old new before after (Err fault) =
    CannotRead g text next left old new before after fault
    ⊎ (EndsInBatch g text next left w number old new before after fault
    ⊎ CannotClose g text left w old new before after fault)

-- what a crash within a load may leave once so many batches were done: the warehouse with these, or with more of the
-- text's
pub record LoadMayLeave (w : Warehouse) (first size : ℕ) (text : Option (List ℕ)) (count : ℕ) (c : Content) : Type 0
  where
    pub some : List (List LineOrder)
    pub next : ℕ
    pub left : List (List (List ℕ))
    pub cut : AreCutFrom text size some next left
    pub no_fewer : count ≤ length some
    pub represents : Represents c (with_batches w first some)

-- A load in batches of so many lines, the first of them with a number. What the reader holds is a text, or it is not
-- known, as that of a file: then all is said but which rows those of the batches are
pub record Loads {D A : Type 0} (g : Ghosts D) (w : Warehouse) (first size : ℕ) (text : Option (List ℕ))
    (old new : Session D g) (before after : Option (List ℕ)) (result : Result A Fault) : Type 0 where
  -- the batches that were done: the rows of the first parts of the text
  pub trace : List (Done g)
  pub next : ℕ
  pub left : List (List (List ℕ))
  pub cut : AreCutFrom text size (batches_of trace) next left
  -- the device takes each in, and then its line is written
  pub does : DoesAll g old before w first trace
  -- from then on a crash leaves it
  pub stay : (place : ℕ) (one : Done g) → slice_get trace place ≡ Some one
      → Leaves (disk_of g one.session) (disk_of g new) (LoadMayLeave w first size text (place + 1))
  -- so the warehouse has them, and their lines are written
  pub at : IsAt g (session_after old trace) (with_batches w first (batches_of trace))
  pub written : Appends before (written_after before trace) (batch_lines_in w first (batches_of trace))
  -- and the end
  pub ends : Ends g text next left (with_batches w first (batches_of trace)) (first + length trace)
      (session_after old trace) new (written_after before trace) after result
  -- what a crash at any point leaves
  pub leaves : Leaves (disk_of g old) (disk_of g new) (LoadMayLeave w first size text 0)
