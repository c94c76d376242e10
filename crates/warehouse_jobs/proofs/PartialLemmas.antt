-- How a partial report ends.
use Rattle.std.proofs.Common.{◌≡◌, ◌⊎◌, inl, inr, ℕ, true, List, Option, Some, None, Result, Ok, Err, refl, subst}
use Rattle.std.proofs.KnownBytes.{Keeps-refl}
use Rattle.sector_device.specs.declared.device.Sectors.{Ghosts}
use Rattle.cube_model.specs.declared.answer.Answer.{Answer}
use Rattle.cube_model.specs.declared.fault.Fault.{Fault}
use Rattle.cube_model.specs.declared.fault.Fault.TheVariants.{Device, Memory}
use Rattle.cube_model.specs.Answers.{answer_as_of}
use Rattle.partial_reports.specs.declared.asked.PartAsked.{PartAsked}
use Rattle.partial_reports.specs.Members.{member_cause}
use Rattle.partial_reports.specs.Partial.{partial_text}
use Rattle.ssb_reports.specs.Writing.{Writes}
use Rattle.warehouse_objects.specs.Warehouse.{Warehouse}
use Rattle.warehouse.specs.declared.session.Session.{Session}
use Rattle.warehouse.specs.Session.{IsAt, IsAsked, QueryRefuses, has_failed}
use Rattle.warehouse_jobs.specs.Partial.{AnswersInPart}
use Rattle.warehouse_jobs.proofs.Reports.{report-refused, report-written}

module _ {D : Type 0} (g : Ghosts D) (w : Warehouse) (count : ℕ) (asked : PartAsked) (new : Session D g)
    (before : Option (List ℕ)) where
  -- the query was refused, or the device failed
  pub partial-refused : (fault : Fault) (result : Result Unit Fault)
      → (fault ≡ Device → has_failed new ≡ true)
      → ((fault ≡ Device → ⊥) → QueryRefuses w count asked.query fault × IsAt g new w)
      → (other : Fault) × (result ≡ Err other) × (other ≡ fault)
      → AnswersInPart g w count asked new before before result
  partial-refused fault result failed causes stop =
      rw (stop.1, stop.2)
      (inl (report-refused (partial_text asked w.rows) g w count asked.query new before fault (Err fault) failed
      causes (fault, refl, refl)))

  no_memory : (fault : Fault) → fault ≡ Memory → IsAt g new w → IsAsked w count asked.query
      → QueryRefuses w count asked.query fault
  no_memory fault is at within = inr (inr (is, within))

  -- a member cannot be read back, or there is no memory for the head
  pub partial-not_begun : (found : Answer) (fault : Fault) (result : Result Unit Fault) → IsAt g new w
      → IsAsked w count asked.query × (found ≡ answer_as_of asked.query count w.rows w.batches)
      → (fault ≡ Memory) ⊎ (member_cause found ≡ Some fault)
      → (other : Fault) × (result ≡ Err other) × (other ≡ fault)
      → AnswersInPart g w count asked new before before result
  partial-not_begun found fault result at is (inl memory) stop =
      rw (stop.1, stop.2) (inl (inr (Keeps-refl before, inr (no_memory fault memory at is.0, at))))
  partial-not_begun found fault result at is (inr cause) stop =
      rw (stop.1, stop.2) (inr (record {
        cause = subst (λ (answer : Answer). member_cause answer ≡ Some fault) is.1 cause;
        at = at;
        within = is.0;
        nothing = Keeps-refl before;
      }))

  -- the answer was found, and its text written
  pub partial-written : (after : Option (List ℕ)) (found : Answer) (bytes : List ℕ) (result : Result Unit Fault)
      → IsAt g new w
      → IsAsked w count asked.query × (found ≡ answer_as_of asked.query count w.rows w.batches)
      → member_cause found ≡ None
      → bytes ≡ partial_text asked w.rows found → Writes before after result bytes
      → AnswersInPart g w count asked new before after result
  partial-written after found bytes (Ok done) at is plain spelled writes = (
    subst (λ (answer : Answer). member_cause answer ≡ None) is.1 plain,
    report-written (partial_text asked w.rows) g w count asked.query new before after found (Ok tt) at is
        (rw spelled at writes),
  )
  partial-written after found bytes (Err fault) at is plain spelled writes =
      inl (report-written (partial_text asked w.rows) g w count asked.query new before after found (Err fault) at is
      (rw spelled at writes))
