-- A batch that grows by rows until it is submitted. Our own.
use Rattle.std.specs.Prelude.{◌≡◌, ◌≤◌, ◌+◌, ℕ, None, List, length}
use Rattle.sector_device.specs.declared.device.Sectors.{Ghosts}
use Rattle.cube_model.specs.declared.rows.DimRows.{DimRows}
use Rattle.cube_model.specs.declared.rows.LineOrder.{LineOrder}
use Rattle.cube_model.specs.Limits.{most_batch_rows}
use Rattle.column_segment.specs.Encoding.{HaveRows}
use Rattle.batch_admission.specs.Found.{found_in}
use Rattle.warehouse_root.specs.Root.{PlainRoot}
use Rattle.warehouse.specs.declared.growing.GrowingBatch.{GrowingBatch}
use Rattle.warehouse.specs.declared.session.Session.{Session}

-- What was found in the rows that a batch has so far, after the batches of a root, and the columns of these rows,
-- unless a text is too long
pub record IsGrown (dimensions : DimRows) (root : PlainRoot) (rows : List LineOrder) (batch : GrowingBatch) : Type 0
  where
    pub found : batch.found ≡ found_in dimensions root.totals rows
    pub columns : batch.found.long_text ≡ None → HaveRows rows batch.columns

-- a batch has some rows so far, and so many more are not too many
abbrev pub HasRoomFor : DimRows → PlainRoot → ℕ → GrowingBatch → Type 0
HasRoomFor dimensions root more batch =
    (rows : List LineOrder) × IsGrown dimensions root rows batch × (length rows + more ≤ most_batch_rows)

-- a batch of a session has some rows so far
abbrev pub Grows : {D : Type 0} {g : Ghosts D} → Session D g → List LineOrder → GrowingBatch → Type 0
Grows session rows batch = IsGrown session.dims.value session.root rows batch

-- and so many more are not too many
abbrev pub CanGrow : {D : Type 0} {g : Ghosts D} → Session D g → ℕ → GrowingBatch → Type 0
CanGrow session more batch = HasRoomFor session.dims.value session.root more batch

-- a batch is one of a session
abbrev pub IsOfSession : {D : Type 0} {g : Ghosts D} → Session D g → GrowingBatch → Type 0
IsOfSession session batch = (rows : List LineOrder) × Grows session rows batch
