-- What a report and a status write. Our own.
use Rattle.std.specs.Prelude.{◌≡◌, ◌⊎◌, ℕ, true, List, length, Option, Some, None, Result, Ok, Err}
use Rattle.std.specs.Io.KnownBytes.{Appends, Keeps}
use Rattle.sector_device.specs.declared.device.Sectors.{Ghosts}
use Rattle.cube_model.specs.declared.answer.Answer.{Answer}
use Rattle.cube_model.specs.declared.fault.Fault.{Fault}
use Rattle.cube_model.specs.declared.fault.Fault.TheVariants.{Output, Device}
use Rattle.cube_model.specs.declared.query.Query.{Query}
use Rattle.cube_model.specs.Answers.{answer_as_of}
use Rattle.planned_queries.specs.ModeAnswers.{moded_answer_as_of}
use Rattle.mode_queries.specs.declared.query.ModeQuery.{ModeQuery}
use Rattle.object_store.specs.Disk.{Leaves}
use Rattle.report_formats.specs.declared.asked.Asked.{Asked}
use Rattle.report_formats.specs.Fields.{formatted}
use Rattle.ssb_reports.specs.Report.{report_of}
use Rattle.ssb_reports.specs.Writing.{AppendsBeginning}
use Rattle.warehouse_objects.specs.Warehouse.{Warehouse}
use Rattle.warehouse_objects.specs.Represents.{Represents}
use Rattle.warehouse.specs.declared.session.Session.{Session}
use Rattle.warehouse.specs.declared.status.Status.{Status}
use Rattle.warehouse.specs.ByModes.{IsAskedByModes, RefusesByModes}
use Rattle.warehouse.specs.Session.{IsAt, IsAsked, QueryRefuses, content_of, disk_of, has_failed}
use Rattle.warehouse.specs.Status.{IsStatus}
use Rattle.warehouse_jobs.specs.Printed.{status_text}

-- over how many batches a query is asked: so many, or all that are there
abbrev pub batches_asked : Warehouse → Option ℕ → ℕ
batches_asked w (Some as_of) = as_of
batches_asked w None = length w.batches

-- a text of the definition's answer over the first batches of a warehouse
abbrev pub answered_by : (Answer → List ℕ) → Warehouse → ℕ → Query → List ℕ
answered_by text w count query = text (answer_as_of query count w.rows w.batches)

-- and of that to a query that may look at ship modes
abbrev pub answered_by_modes : (Answer → List ℕ) → Warehouse → ℕ → ModeQuery → List ℕ
answered_by_modes text w count asked = text (moded_answer_as_of asked count w.rows w.batches)

-- A text was written, which may be asked for. Or the writer failed, after a beginning of it. Or nothing was written:
-- the device failed, or the text is refused
abbrev pub WritesAsked : {D A : Type 0} → List ℕ → (MayBeAsked : Type 0) → (Refuses : Fault → Type 0) → (g : Ghosts D)
    → Warehouse → (new : Session D g) → (before after : Option (List ℕ)) → Result A Fault → Type 0
WritesAsked text MayBeAsked Refuses g w new before after (Ok done) =
    IsAt g new w × MayBeAsked × Appends before after text
WritesAsked text MayBeAsked Refuses g w new before after (Err fault) =
    ((fault ≡ Output) × IsAt g new w × MayBeAsked × AppendsBeginning before after text)
    ⊎ (Keeps before after × (((fault ≡ Device) × (has_failed new ≡ true)) ⊎ (Refuses fault × IsAt g new w)))

-- a text of the answer to a query over the first batches was written, or not
abbrev pub WritesAnswer : {D A : Type 0} → (Answer → List ℕ) → (g : Ghosts D) → Warehouse → ℕ → Query
    → (new : Session D g)
    → (before after : Option (List ℕ)) → Result A Fault → Type 0
WritesAnswer text g w count query new before after result =
    WritesAsked (answered_by text w count query) (IsAsked w count query) (QueryRefuses w count query) g w new before
    after result

-- and a text of the answer to one that may look at ship modes
abbrev pub AnswersByModes : {D A : Type 0} → (Answer → List ℕ) → (g : Ghosts D) → Warehouse → ℕ → ModeQuery
    → (new : Session D g) → (before after : Option (List ℕ)) → Result A Fault → Type 0
AnswersByModes text g w count asked new before after result =
    WritesAsked (answered_by_modes text w count asked) (IsAskedByModes w count asked) (RefusesByModes w count asked) g w
    new before after result

-- a report, which leaves the warehouse as it is at each moment
pub record Reports {D A : Type 0} (g : Ghosts D) (w : Warehouse) (as_of : Option ℕ) (query : Query)
    (old new : Session D g) (before after : Option (List ℕ)) (result : Result A Fault) : Type 0 where
  pub ends : WritesAnswer (report_of query) g w (batches_asked w as_of) query new before after result
  pub leaves : Leaves (disk_of g old) (disk_of g new) (λ c. Represents c w)

-- a report in a layout, which leaves the warehouse as it is at each moment
pub record ReportsIn {D A : Type 0} (g : Ghosts D) (w : Warehouse) (as_of : Option ℕ) (asked : Asked)
    (old new : Session D g) (before after : Option (List ℕ)) (result : Result A Fault) : Type 0 where
  pub ends : AnswersByModes (formatted asked) g w (batches_asked w as_of) asked.query new before after result
  pub leaves : Leaves (disk_of g old) (disk_of g new) (λ c. Represents c w)

-- the numbers of the warehouse are written, or the writer fails after a beginning of them
abbrev pub Tells : {D A : Type 0} (g : Ghosts D) → Warehouse → (old new : Session D g)
    → (before after : Option (List ℕ)) → Result A Fault → Type 0
Tells g w old new before after (Ok done) =
    (new ≡ old) × (status : Status) × IsStatus w (content_of g old).generation status
    × Appends before after (status_text status)
Tells g w old new before after (Err fault) =
    (fault ≡ Output) × (new ≡ old) × (status : Status) × IsStatus w (content_of g old).generation status
    × AppendsBeginning before after (status_text status)
