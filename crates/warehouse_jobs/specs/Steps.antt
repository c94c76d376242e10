-- One step of a load: the next batch of its text, where there is one. Our own.
use Rattle.std.specs.Prelude.{◌≡◌, ◌⊎◌, ◌≤◌, ℕ, Bool, true, false, List, length, Option, Result, Ok, Err}
use Rattle.sector_device.specs.declared.device.Sectors.{Ghosts}
use Rattle.batch_loader.specs.Reading.{RefusesBatch, TakesBatch}
use Rattle.batch_loader.specs.Tables.{lineorder_row}
use Rattle.batch_loader.specs.Unread.{Unread}
use Rattle.std.specs.Io.KnownBytes.{Appends}
use Rattle.cube_model.specs.declared.fault.Fault.{Fault}
use Rattle.cube_model.specs.declared.rows.LineOrder.{LineOrder}
use Rattle.warehouse_objects.specs.Warehouse.{Warehouse}
use Rattle.warehouse.specs.declared.session.Session.{Session}
use Rattle.warehouse_jobs.specs.Loading.{FailsInBatch, DeviceTakesBatch, batch_line_in, taken_of}

-- a batch of some rows was read
pub record IsRead (size : ℕ) (lines rest : Unread) (rows : List LineOrder) : Type 0 where
  pub some : 1 ≤ length rows
  pub takes : TakesBatch lineorder_row size lines rest rows

-- no row was left, and nothing happened
pub record IsAtLast {D : Type 0} (g : Ghosts D) (size : ℕ) (lines rest : Unread) (old new : Session D g)
    (before after : Option (List ℕ)) : Type 0 where
  pub rows : List LineOrder
  pub none : length rows ≡ 0
  pub takes : TakesBatch lineorder_row size lines rest rows
  pub same : new ≡ old
  pub nothing : after ≡ before

-- the next batch could not be read, and nothing happened
pub record IsNotRead {D : Type 0} (g : Ghosts D) (size : ℕ) (lines : Unread) (old new : Session D g)
    (before after : Option (List ℕ)) (fault : Fault) : Type 0 where
  pub refused : RefusesBatch lineorder_row size lines fault
  pub same : new ≡ old
  pub nothing : after ≡ before

-- The next batch was read, and once the device has it, its line is written; or no row was left. Or the next batch could
-- not be read, or did not end well
abbrev pub Steps : {D : Type 0} (g : Ghosts D) → ℕ → Warehouse → ℕ → (lines rest : Unread) → (old new : Session D g)
    → (before after : Option (List ℕ)) → Result Bool Fault → Type 0
Steps g size w number lines rest old new before after (Ok true) =
    (rows : List LineOrder) × IsRead size lines rest rows × DeviceTakesBatch g w number rows old new (taken_of w number)
    × Appends before after (batch_line_in w number rows)
Steps g size w number lines rest old new before after (Ok false) = IsAtLast g size lines rest old new before after
Steps g size w number lines rest old new before after (Err fault) =
    IsNotRead g size lines old new before after fault
    ⊎ ((rows : List LineOrder) × IsRead size lines rest rows × FailsInBatch g w number rows old new before after fault)
