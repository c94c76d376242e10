-- Calls that only read a session.
use Rattle.std.proofs.Common.{◌≡◌, ◌↔◌, ◌⊎◌, ⊎_elim, ◌∙◌, Result, IfErr, IsErrOf, true, false, sym}
use Rattle.std.proofs.lemmas.Result.{IfErr-at_err}
use Rattle.cube_model.specs.declared.fault.Fault.{Fault}
use Rattle.cube_model.specs.declared.fault.Fault.TheVariants.{BadLayout, Device, Failed, Memory}
use Rattle.sector_device.specs.declared.device.Sectors.{Ghosts}
use Rattle.warehouse_objects.specs.Reads.{ReadsOnly}
use Rattle.warehouse.specs.Reads.{OnlyReads}
use Rattle.warehouse.specs.Session.{CallsDevice, content_of, disk_of, has_failed}
use Rattle.warehouse.specs.declared.session.Session.{Session}
use Rattle.warehouse.proofs.Represented.{content_leaves, session_at, still_at, store_at}

module _ {D : Type 0} (g : Ghosts D) where
  -- a call that reads the store, and leaves the rest as it was
  pub store_read : {A : Type 0} (result : Result A Fault) (refuses : Fault → Type 0) (old new : Session D g)
      → has_failed old ≡ false → ReadsOnly g old.store new.store result → (refuses Device ↔ IsErrOf result Device)
      → (refuses Failed → ⊥) → OnlyReads g refuses old new
  store_read result refuses old new fine reads device never = record {
    leaves = λ w at. content_leaves g w (disk_of g old) (disk_of g new) (content_of g old) at.represents reads.leaves;
    stays = λ other w at. session_at g w new
        (still_at g w old.store new.store (store_at g w old at) (reads.stays (λ is. other (device.1 is))));
    reads = λ other. (reads.stays (λ is. other (device.1 is))).content;
    calls = record {
      failed = (
        λ is. absurd (never is),
        λ failed. let bad : true ≡ false = sym failed ∙ fine in absurd cc,
      );
      unmoved = λ is. absurd (never is);
      device = λ is. let broken = reads.device (device.0 is) in
          record { before = broken.before; failed = broken.failed; failures = broken.failures };
      word = reads.leaves.word;
    };
  }

  -- one that is refused with the faults of that read
  pub call_reads : {A : Type 0} (result : Result A Fault) (old new : Session D g) → has_failed old ≡ false
      → ReadsOnly g old.store new.store result
      → IfErr result (λ fault. (fault ≡ Memory) ⊎ ((fault ≡ Device) ⊎ (fault ≡ BadLayout)))
      → OnlyReads g (IsErrOf result) old new
  call_reads result old new fine reads causes =
      store_read result (IsErrOf result) old new fine reads (λ is. is, λ is. is)
      (λ is. ⊎_elim (λ memory. cc) (⊎_elim (λ device. cc) (λ bad. cc))
      (IfErr-at_err (λ (f : Fault). (f ≡ Memory) ⊎ ((f ≡ Device) ⊎ (f ≡ BadLayout))) is causes))

  -- another call, which is refused with Device and Failed where this one is
  pub calls_alike : (old new : Session D g) (refuses again : Fault → Type 0) → (refuses Device ↔ again Device)
      → (refuses Failed ↔ again Failed) → CallsDevice g refuses old new → CallsDevice g again old new
  calls_alike old new refuses again device failed calls = record {
    failed = (λ is. calls.failed.0 (failed.1 is), λ is. failed.0 (calls.failed.1 is));
    unmoved = λ is. calls.unmoved (failed.1 is);
    device = λ is. calls.device (device.1 is);
    word = calls.word;
  }

  -- and which only reads
  pub reads_alike : (old new : Session D g) (refuses again : Fault → Type 0) → (refuses Device ↔ again Device)
      → (refuses Failed ↔ again Failed) → OnlyReads g refuses old new → OnlyReads g again old new
  reads_alike old new refuses again device failed reads = record {
    leaves = reads.leaves;
    stays = λ other. reads.stays (λ is. other (device.0 is));
    reads = λ other. reads.reads (λ is. other (device.0 is));
    calls = calls_alike old new refuses again device failed reads.calls;
  }
