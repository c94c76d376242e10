-- What an addition of dimension rows makes of a warehouse, and what it writes. Our own.
use Rattle.std.specs.Prelude.{◌≡◌, ◌⊎◌, ◌<◌, ◌≤◌, ℕ, ◌+◌, nat_le, if◌then◌else◌, true, List, length, Option, Result, Ok}
use Rattle.std.specs.Prelude.{Err}
use Rattle.std.specs.Io.KnownBytes.{Appends, Keeps}
use Rattle.sector_device.specs.declared.device.Sectors.{Ghosts}
use Rattle.cube_model.specs.declared.fault.Fault.{Fault}
use Rattle.cube_model.specs.declared.fault.Fault.TheVariants.{Device, Output, Repeated}
use Rattle.cube_model.specs.declared.rows.DimRows.{DimRows}
use Rattle.object_store.specs.Disk.{Leaves}
use Rattle.ssb_reports.specs.Writing.{AppendsBeginning}
use Rattle.warehouse_objects.specs.Facts.{AdmitsRows}
use Rattle.warehouse_objects.specs.Warehouse.{Warehouse}
use Rattle.warehouse_objects.specs.Represents.{Represents}
use Rattle.stored_rows.specs.Added.{widened}
use Rattle.stored_rows.specs.Among.{ContainsRows}
use Rattle.warehouse.specs.declared.session.Session.{Session}
use Rattle.warehouse.specs.Session.{AddRefuses, IsAt, disk_of, has_failed}
use Rattle.warehouse_jobs.specs.declared.taken.Taken.{Taken}
use Rattle.warehouse_jobs.specs.declared.taken.Taken.TheVariants.{Added, Skipped}
use Rattle.warehouse_jobs.specs.Printed.{addition_text}

-- how many rows there are in all four tables
abbrev pub row_total : DimRows → ℕ
row_total rows = length rows.customers + length rows.suppliers + length rows.parts + length rows.dates

-- an addition is passed over where its number was there already
abbrev pub addition_taken : Warehouse → ℕ → Taken
addition_taken w number = if nat_le number w.additions then Skipped else Added

-- the warehouse after it
abbrev pub with_addition : Warehouse → ℕ → DimRows → Warehouse
with_addition w number rows = if nat_le number w.additions then w else widened w rows

-- its lines
abbrev pub addition_lines : Warehouse → ℕ → DimRows → List ℕ
addition_lines w number rows =
    addition_text number (row_total rows) (addition_taken w number) (with_addition w number rows).additions

-- The device in an addition. It represents the warehouse after it then, and until then this or the one before. Of an
-- addition that is passed over each row is in the dimensions already, under its key and with the same texts
pub record DeviceTakesRows {D : Type 0} (g : Ghosts D) (w : Warehouse) (number : ℕ) (rows : DimRows)
    (old new : Session D g)
    (taken : Taken) : Type 0 where
  pub taken_is : taken ≡ addition_taken w number
  pub follows : w.additions < number → AdmitsRows w number rows
  pub same : number ≤ w.additions → ContainsRows w.rows rows
  pub at : IsAt g new (with_addition w number rows)
  pub leaves : Leaves (disk_of g old) (disk_of g new) (λ c. Represents c w ⊎ Represents c (with_addition w number rows))

-- Why an addition is refused where the device has not failed: its number is there already, and one of its rows is not
-- in the dimensions so; or its number is not there, and the warehouse refuses it
abbrev pub AdditionRefuses : {D : Type 0} (g : Ghosts D) → Session D g → Warehouse → ℕ → DimRows → Fault → Type 0
AdditionRefuses g session w number rows fault =
    ((fault ≡ Repeated) × (number ≤ w.additions) × (ContainsRows w.rows rows → ⊥))
    ⊎ ((w.additions < number) × AddRefuses g session w number rows fault)

-- An addition is refused. The warehouse stays, unless the device failed: it may then have the rows, where they are
-- admissible
pub record RefusesRows {D : Type 0} (g : Ghosts D) (w : Warehouse) (number : ℕ) (rows : DimRows) (old new : Session D g)
    (fault : Fault) : Type 0 where
  pub cause : ((fault ≡ Device) × (has_failed new ≡ true)) ⊎ (AdditionRefuses g old w number rows fault × IsAt g new w)
  pub leaves : Leaves (disk_of g old) (disk_of g new)
      (λ c. Represents c w ⊎ (AdmitsRows w number rows × Represents c (widened w rows)))

-- An addition: once the device has it, its lines are written. Or it is refused, and nothing is written. Or the device
-- has it, and the writer failed, after a beginning of its lines
abbrev pub DoesAddition : {D A : Type 0} (g : Ghosts D) → Warehouse → ℕ → DimRows → (old new : Session D g)
    → (before after : Option (List ℕ)) → Result A Fault → Type 0
DoesAddition g w number rows old new before after (Ok done) =
    DeviceTakesRows g w number rows old new (addition_taken w number)
    × Appends before after (addition_lines w number rows)
DoesAddition g w number rows old new before after (Err fault) =
    (RefusesRows g w number rows old new fault × Keeps before after)
    ⊎ ((fault ≡ Output) × DeviceTakesRows g w number rows old new (addition_taken w number)
    × AppendsBeginning before after (addition_lines w number rows))
