-- What calls leave of a store, alone and one after another.
use Rattle.std.proofs.Common.{◌≡◌, ℕ, ◌+◌, ◌-◌, ◌^◌, min, false, refl, ◌∙◌, ap, sym, Result, Err, IsErrOf}
use Rattle.sector_device.specs.declared.device.Sectors.{Ghosts}
use Rattle.cube_model.specs.declared.fault.Fault.{Fault}
use Rattle.cube_model.specs.declared.fault.Fault.TheVariants.{Device, Failed, Memory}
use Rattle.object_store.specs.declared.store.Store.{Store}
use Rattle.object_store.specs.Store.{device_of, disk_of, has_failed}
use Rattle.warehouse_objects.specs.Reads.{ReadsOnly}
use Rattle.warehouse_objects.proofs.Folded.{err_fault}
use Rattle.stored_cuboids.specs.Calls.{CallsStore}

module _ {D : Type 0} (g : Ghosts D) (refuses : Fault → Type 0) where
  -- no call was made yet
  pub no_call_yet : (s : Store D g) → has_failed s ≡ false → (refuses Failed → ⊥) → (refuses Device → ⊥)
      → CallsStore g refuses s s
  no_call_yet s fine unfailed unbroken = record {
    failed = unfailed;
    device = λ is. absurd (unbroken is);
    fine = λ other. fine;
    failures = λ other. refl;
    word = λ k. k;
  }

  -- a call, refused with the faults of a read
  pub read_refused : {A : Type 0} (result : Result A Fault) (a b : Store D g) → has_failed a ≡ false
      → ReadsOnly g a b result → (refuses Failed → ⊥) → (refuses Device → IsErrOf result Device)
      → (IsErrOf result Device → refuses Device) → CallsStore g refuses a b
  read_refused result a b fine reads unfailed of_read to_read = record {
    failed = unfailed;
    device = λ is. reads.device (of_read is);
    fine = λ other. (reads.stays (λ is. other (to_read is))).failed ∙ fine;
    failures = λ other. (reads.stays (λ is. other (to_read is))).failures;
    word = reads.leaves.word;
  }

  -- a call after others that were not refused
  pub one_more_call : (a b c : Store D g) → has_failed a ≡ false
      → (g.keeps_word (device_of b) → g.keeps_word (device_of a))
      → (disk_of g b).failures ≡ (disk_of g a).failures → CallsStore g refuses b c → CallsStore g refuses a c
  one_more_call a b c fine word same calls = record {
    failed = calls.failed;
    device = λ is. let broken = calls.device is in record {
      before = fine;
      failed = broken.failed;
      failures = broken.failures ∙ ap (λ (n : ℕ). min (n + 1) (2 ^ 64 - 1)) same;
    };
    fine = calls.fine;
    failures = λ other. calls.failures other ∙ same;
    word = λ k. word (calls.word k);
  }

  -- a call that is refused where another one is
  pub refused_alike : (again : Fault → Type 0) (a b : Store D g) → (again Failed → refuses Failed)
      → (again Device → refuses Device) → (refuses Device → again Device) → CallsStore g refuses a b
      → CallsStore g again a b
  refused_alike again a b failed to from calls = record {
    failed = λ is. calls.failed (failed is);
    device = λ is. calls.device (to is);
    fine = λ other. calls.fine (λ is. other (from is));
    failures = λ other. calls.failures (λ is. other (from is));
    word = calls.word;
  }

-- memory was missing before the first call
pub out_of_memory : {D A : Type 0} (g : Ghosts D) (fault : Fault) (s : Store D g) → has_failed s ≡ false
    → fault ≡ Memory → CallsStore g (IsErrOf {T = A} (Err fault)) s s
out_of_memory g fault s fine memory =
    no_call_yet g (IsErrOf (Err fault)) s fine
    (λ is. let bad : Memory ≡ Failed = sym memory ∙ err_fault fault Failed is in cc)
    (λ is. let bad : Memory ≡ Device = sym memory ∙ err_fault fault Device is in cc)
