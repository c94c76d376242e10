-- What a partial report writes. Our own.
use Rattle.std.specs.Prelude.{◌≡◌, ◌⊎◌, ℕ, List, Option, Some, None, Result, Ok, Err}
use Rattle.std.specs.Io.KnownBytes.{Keeps}
use Rattle.sector_device.specs.declared.device.Sectors.{Ghosts}
use Rattle.cube_model.specs.declared.fault.Fault.{Fault}
use Rattle.cube_model.specs.Answers.{answer_as_of}
use Rattle.object_store.specs.Disk.{Leaves}
use Rattle.partial_reports.specs.declared.asked.PartAsked.{PartAsked}
use Rattle.partial_reports.specs.Members.{member_cause}
use Rattle.partial_reports.specs.Partial.{partial_text}
use Rattle.warehouse_objects.specs.Warehouse.{Warehouse}
use Rattle.warehouse_objects.specs.Represents.{Represents}
use Rattle.warehouse.specs.declared.session.Session.{Session}
use Rattle.warehouse.specs.Session.{IsAt, IsAsked, disk_of}
use Rattle.warehouse_jobs.specs.Reporting.{WritesAnswer, batches_asked}

-- why the partial report over the first batches of a warehouse cannot be read back, if it cannot
abbrev pub partial_cause : Warehouse → ℕ → PartAsked → Option Fault
partial_cause w count asked = member_cause (answer_as_of asked.query count w.rows w.batches)

-- a member cannot be read back, and nothing was written
pub record RefusesMember {D : Type 0} (g : Ghosts D) (w : Warehouse) (count : ℕ) (asked : PartAsked) (new : Session D g)
    (before after : Option (List ℕ)) (fault : Fault) : Type 0 where
  pub cause : partial_cause w count asked ≡ Some fault
  pub at : IsAt g new w
  pub within : IsAsked w count asked.query
  pub nothing : Keeps before after

-- a partial report is written as each text of an answer is, where its members can be read back
abbrev pub AnswersInPart : {D A : Type 0} (g : Ghosts D) → Warehouse → ℕ → PartAsked → (new : Session D g)
    → (before after : Option (List ℕ)) → Result A Fault → Type 0
AnswersInPart g w count asked new before after (Ok done) =
    (partial_cause w count asked ≡ None) × WritesAnswer {A = Unit {0}} (partial_text asked w.rows) g w count asked.query
    new
    before after (Ok tt)
AnswersInPart g w count asked new before after (Err fault) =
    WritesAnswer {A = Unit {0}} (partial_text asked w.rows) g w count asked.query new before after (Err fault)
    ⊎ RefusesMember g w count asked new before after fault

-- a partial report leaves the warehouse as it is at each moment
pub record ReportsInPart {D A : Type 0} (g : Ghosts D) (w : Warehouse) (as_of : Option ℕ) (asked : PartAsked)
    (old new : Session D g) (before after : Option (List ℕ)) (result : Result A Fault) : Type 0 where
  pub ends : AnswersInPart g w (batches_asked w as_of) asked new before after result
  pub leaves : Leaves (disk_of g old) (disk_of g new) (λ c. Represents c w)
