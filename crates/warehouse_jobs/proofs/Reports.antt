-- How a report ends.
use Rattle.std.proofs.Common.{◌≡◌, ⊎_elim, inl, inr, ℕ, true, List, Option, Result, Ok, Err, subst}
use Rattle.std.proofs.KnownBytes.{Keeps-refl}
use Rattle.std.specs.Io.KnownBytes.{Appends}
use Rattle.sector_device.specs.declared.device.Sectors.{Ghosts}
use Rattle.cube_model.specs.declared.fault.Fault.{Fault}
use Rattle.cube_model.specs.declared.fault.Fault.TheVariants.{Device}
use Rattle.cube_model.specs.declared.answer.Answer.{Answer}
use Rattle.cube_model.specs.declared.query.Query.{Query}
use Rattle.cube_model.specs.Answers.{answer_as_of}
use Rattle.planned_queries.specs.ModeAnswers.{moded_answer_as_of}
use Rattle.mode_queries.specs.declared.query.ModeQuery.{ModeQuery}
use Rattle.report_formats.specs.Arranged.{WritesOrLacksMemory}
use Rattle.ssb_reports.specs.Writing.{AppendsBeginning, Writes}
use Rattle.warehouse_objects.specs.Warehouse.{Warehouse}
use Rattle.warehouse.specs.declared.session.Session.{Session}
use Rattle.warehouse.specs.ByModes.{IsAskedByModes, RefusesByModes}
use Rattle.warehouse.specs.Session.{IsAt, IsAsked, QueryRefuses, has_failed}
use Rattle.warehouse.proofs.Refusing.{device_or}
use Rattle.warehouse_jobs.specs.Reporting.{WritesAnswer, AnswersByModes, WritesAsked, answered_by, answered_by_modes}

module _ {D : Type 0} (MayBeAsked : Type 0) (Refuses : Fault → Type 0) (g : Ghosts D) (w : Warehouse)
    (new : Session D g) (before : Option (List ℕ)) where
  -- what is asked was refused, or the device failed
  asked-refused : (text : List ℕ) (fault : Fault) (result : Result Unit Fault)
      → (fault ≡ Device → has_failed new ≡ true) → ((fault ≡ Device → ⊥) → Refuses fault × IsAt g new w)
      → (other : Fault) × (result ≡ Err other) × (other ≡ fault)
      → WritesAsked text MayBeAsked Refuses g w new before before result
  asked-refused text fault result failed causes stop =
      rw (stop.1, stop.2) (inr (
        Keeps-refl before,
        ⊎_elim (λ e. inl (e, failed e)) (λ no. inr (causes no)) (device_or fault),
      ))

  -- the answer was found, and its text written
  asked-written : (text : Answer → List ℕ) (answer : Answer) (after : Option (List ℕ)) (found : Answer)
      (result : Result Unit Fault) → IsAt g new w → MayBeAsked × (found ≡ answer)
      → Writes before after result (text found)
      → WritesAsked (text answer) MayBeAsked Refuses g w new before after result
  asked-written text answer after found (Ok done) at asked written = (
    at,
    asked.0,
    subst (λ (a : Answer). Appends before after (text a)) asked.1 written,
  )
  asked-written text answer after found (Err fault) at asked written = inl (
    written.0,
    at,
    asked.0,
    subst (λ (a : Answer). AppendsBeginning before after (text a)) asked.1 written.1,
  )

-- the query was refused, or the device failed
pub report-refused : {D : Type 0} (text : Answer → List ℕ) (g : Ghosts D) (w : Warehouse) (count : ℕ) (query : Query)
    (new : Session D g) (before : Option (List ℕ)) (fault : Fault) (result : Result Unit Fault)
    → (fault ≡ Device → has_failed new ≡ true)
    → ((fault ≡ Device → ⊥) → QueryRefuses w count query fault × IsAt g new w)
    → (other : Fault) × (result ≡ Err other) × (other ≡ fault)
    → WritesAnswer text g w count query new before before result
report-refused text g w count query new before =
    asked-refused (IsAsked w count query) (QueryRefuses w count query) g w new before (answered_by text w count query)

-- the answer was found, and its text written
pub report-written : {D : Type 0} (text : Answer → List ℕ) (g : Ghosts D) (w : Warehouse) (count : ℕ) (query : Query)
    (new : Session D g) (before after : Option (List ℕ)) (found : Answer) (result : Result Unit Fault)
    → IsAt g new w → IsAsked w count query × (found ≡ answer_as_of query count w.rows w.batches)
    → Writes before after result (text found) → WritesAnswer text g w count query new before after result
report-written text g w count query new before =
    asked-written (IsAsked w count query) (QueryRefuses w count query) g w new before text
    (answer_as_of query count w.rows w.batches)

module _ {D : Type 0} (text : Answer → List ℕ) (g : Ghosts D) (w : Warehouse) (count : ℕ) (asked : ModeQuery)
    (new : Session D g) (before : Option (List ℕ)) where
  -- a query that may look at ship modes was refused, or the device failed
  pub moded-refused : (fault : Fault) (result : Result Unit Fault) → (fault ≡ Device → has_failed new ≡ true)
      → ((fault ≡ Device → ⊥) → RefusesByModes w count asked fault × IsAt g new w)
      → (other : Fault) × (result ≡ Err other) × (other ≡ fault)
      → AnswersByModes text g w count asked new before before result
  moded-refused =
      asked-refused (IsAskedByModes w count asked) (RefusesByModes w count asked) g w new before
      (answered_by_modes text w count asked)

  -- its answer was found, and its text written, or memory lacked before anything was
  pub moded-formatted : (after : Option (List ℕ)) (found : Answer) (result : Result Unit Fault) → IsAt g new w
      → IsAskedByModes w count asked × (found ≡ moded_answer_as_of asked count w.rows w.batches)
      → WritesOrLacksMemory before after result (text found)
      → AnswersByModes text g w count asked new before after result
  moded-formatted after found (Ok done) at is written =
      asked-written (IsAskedByModes w count asked) (RefusesByModes w count asked) g w new before text
      (moded_answer_as_of asked count w.rows w.batches) after found (Ok done) at is written
  moded-formatted after found (Err fault) at is written =
      ⊎_elim (λ unwritten. asked-written (IsAskedByModes w count asked) (RefusesByModes w count asked) g w new before
      text (moded_answer_as_of asked count w.rows w.batches) after found (Err fault) at is unwritten)
      (λ lacks. inr (lacks.1, inr (inr (inr (lacks.0, is.0)), at))) written
