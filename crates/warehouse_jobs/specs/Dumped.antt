-- Batches of a warehouse as lines of the table of fact rows, and what was written where not all were. Our own.
use Rattle.std.specs.Prelude.{◌≡◌, ℕ, true, false, Option, Some, None, List, slice_get, take}
use Rattle.std.specs.Io.KnownBytes.{Appends, Keeps}
use Rattle.std.specs.List.{list_all}
use Rattle.cube_model.specs.declared.fault.Fault.{Fault}
use Rattle.cube_model.specs.declared.fault.Fault.TheVariants.{BadLayout, Device, Memory, NoSuchPrefix, Output}
use Rattle.cube_model.specs.declared.rows.LineOrder.{LineOrder}
use Rattle.cube_model.specs.Admission.{all_rows}
use Rattle.ssb_reports.specs.Writing.{AppendsBeginning}
use Rattle.table_texts.specs.Spellable.{is_spellable}
use Rattle.table_texts.specs.Texts.{facts_text}

-- the lines of some fact rows were written, all of them, and lines can spell the rows
pub record RowsAreWritten (rows : List LineOrder) (old new : Option (List ℕ)) : Type 0 where
  pub spellable : list_all is_spellable rows ≡ true
  pub lines : Appends old new (facts_text rows)

-- Why the rows of a batch are not written. There is no memory, or the device fails, or a line can spell one of them in
-- no way, and then nothing is written; or the writer fails after a beginning of their lines
abbrev pub RowsAreRefused : List LineOrder → Option (List ℕ) → Option (List ℕ) → Fault → Type 0
RowsAreRefused rows old new Memory = Keeps old new
RowsAreRefused rows old new Device = Keeps old new
RowsAreRefused rows old new BadLayout = (list_all is_spellable rows ≡ false) × Keeps old new
RowsAreRefused rows old new Output = (list_all is_spellable rows ≡ true) × AppendsBeginning old new (facts_text rows)
RowsAreRefused rows old new _ = ⊥

-- Why the batch of a number is not written. Where there is none, nothing is written, and the fault says so, unless
-- there is no memory or the device fails
abbrev pub DumpIsRefused : Option (List LineOrder) → Option (List ℕ) → Option (List ℕ) → Fault → Type 0
DumpIsRefused (Some rows) old new fault = RowsAreRefused rows old new fault
DumpIsRefused None old new NoSuchPrefix = Keeps old new
DumpIsRefused None old new Memory = Keeps old new
DumpIsRefused None old new Device = Keeps old new
DumpIsRefused None old new _ = ⊥

-- not all batches were written: the lines of some first ones were, and the next one is refused
pub record RefusesAfter (batches : List (List LineOrder)) (old new : Option (List ℕ)) (fault : Fault) : Type 0 where
  pub count : ℕ
  pub next : List LineOrder
  pub is_next : slice_get batches count ≡ Some next
  pub between : Option (List ℕ)
  pub first : RowsAreWritten (all_rows (take count batches)) old between
  pub refused : RowsAreRefused next between new fault
