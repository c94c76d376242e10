-- How an addition of dimension rows ends.
use Rattle.std.proofs.Common.{◌≡◌, ◌⊎◌, ⊎_elim, inl, inr, ℕ, zero, suc, ◌<◌, ◌≤◌, nat_le, if◌then◌else◌, true, false}
use Rattle.std.proofs.Common.{List, ◌++◌, codes, Option, Result, Ok, Err, refl, sym, ap, subst, arith}
use Rattle.std.proofs.KnownBytes.{Keeps-refl}
use Rattle.std.proofs.lemmas.Bool.Decides.{nat_tests}
use Rattle.std.specs.Fmt.{decimal}
use Rattle.std.specs.Io.KnownBytes.{Appends}
use Rattle.sector_device.specs.declared.device.Sectors.{Ghosts}
use Rattle.cube_model.specs.declared.fault.Fault.{Fault}
use Rattle.cube_model.specs.declared.fault.Fault.TheVariants.{Device}
use Rattle.cube_model.specs.declared.rows.DimRows.{DimRows}
use Rattle.object_store.specs.Content.{Content}
use Rattle.object_store.specs.Disk.{Leaves}
use Rattle.object_store.proofs.Moments.{leaves_weaker}
use Rattle.ssb_reports.specs.Writing.{AppendsBeginning, Writes}
use Rattle.warehouse_objects.specs.Facts.{AdmitsRows}
use Rattle.warehouse_objects.specs.Warehouse.{Warehouse}
use Rattle.warehouse_objects.specs.Represents.{Represents}
use Rattle.stored_rows.specs.Added.{widened}
use Rattle.stored_rows.specs.Among.{ContainsRows}
use Rattle.warehouse.specs.declared.session.Session.{Session}
use Rattle.warehouse.specs.Session.{IsAt, disk_of, has_failed}
use Rattle.warehouse.proofs.Refusing.{device_or}
use Rattle.warehouse_jobs.specs.declared.taken.Taken.{Taken}
use Rattle.warehouse_jobs.specs.declared.taken.Taken.TheVariants.{Added, Skipped}
use Rattle.warehouse_jobs.specs.Adding.{AdditionRefuses, DoesAddition, RefusesRows, DeviceTakesRows, row_total}
use Rattle.warehouse_jobs.specs.Adding.{addition_taken}
use Rattle.warehouse_jobs.specs.Adding.{with_addition}
use Rattle.warehouse_jobs.specs.Printed.{addition_text, additions_line, counts_text}

-- the line of the additions, where there are some
pub some-additions : (batches additions : ℕ) → (additions ≡ 0 → ⊥) → counts_text batches additions ≡ codes "batches "
    ++ (decimal batches ++ (codes "\n" ++ additions_line additions))
some-additions batches zero some = absurd (some refl)
some-additions batches (suc before) some = refl

-- which addition is passed over

above : (a b : ℕ) → b < a → nat_le a b ≡ false
above a b lt = grind (arith, nat_tests)

above_or_at : (a b : ℕ) → a ≤ b → nat_le a b ≡ true
above_or_at a b le = grind (arith, nat_tests)

module _ {D : Type 0} (g : Ghosts D) (w : Warehouse) (number : ℕ) (rows : DimRows) (old new : Session D g) where
  -- the rows were added
  pub takes-added : w.additions < number → AdmitsRows w number rows → IsAt g new (widened w rows)
      → Leaves (disk_of g old) (disk_of g new)
      (λ c. Represents c w ⊎ (AdmitsRows w number rows × Represents c (widened w rows)))
      → DeviceTakesRows g w number rows old new Added
  takes-added lt admissible at leaves =
      let with_them : with_addition w number rows ≡ widened w rows =
      ap (λ b. if b then w else widened w rows) (above number w.additions lt) in record {
        taken_is = sym (ap (λ b. if b then Skipped else Added) (above number w.additions lt));
        follows = λ _. admissible;
        same = λ le. absurd (omega (arith, lt, le));
        at = subst (λ (v : Warehouse). IsAt g new v) (sym with_them) at;
        leaves = leaves_weaker
            (λ (c : Content). Represents c w ⊎ (AdmitsRows w number rows × Represents c (widened w rows)))
            (λ (c : Content). Represents c w ⊎ Represents c (with_addition w number rows)) (disk_of g old)
            (disk_of g new)
            (λ k c here. ⊎_elim (λ s. inl s) (λ s. inr (subst (λ (v : Warehouse). Represents c v) (sym with_them) s.1))
            here) leaves;
      }

  -- they are there, and nothing was done
  pub takes-skipped : number ≤ w.additions → ContainsRows w.rows rows → IsAt g new w
      → Leaves (disk_of g old) (disk_of g new) (λ c. Represents c w) → DeviceTakesRows g w number rows old new Skipped
  takes-skipped le same at leaves =
      let as_before : with_addition w number rows ≡ w =
      ap (λ b. if b then w else widened w rows) (above_or_at number w.additions le) in record {
        taken_is = sym (ap (λ b. if b then Skipped else Added) (above_or_at number w.additions le));
        follows = λ lt. absurd (omega (arith, lt, le));
        same = λ _. same;
        at = subst (λ (v : Warehouse). IsAt g new v) (sym as_before) at;
        leaves = leaves_weaker (λ (c : Content). Represents c w)
            (λ (c : Content). Represents c w ⊎ Represents c (with_addition w number rows)) (disk_of g old)
            (disk_of g new) (λ k c here. inl here) leaves;
      }

  -- the addition is refused
  pub refuses-rows : (fault : Fault) → (fault ≡ Device → has_failed new ≡ true)
      → ((fault ≡ Device → ⊥) → AdditionRefuses g old w number rows fault × IsAt g new w)
      → Leaves (disk_of g old) (disk_of g new)
      (λ c. Represents c w ⊎ (AdmitsRows w number rows × Represents c (widened w rows)))
      → RefusesRows g w number rows old new fault
  refuses-rows fault failed causes leaves = record {
    cause = ⊎_elim (λ e. inl (e, failed e)) (λ no. inr (causes no)) (device_or fault);
    leaves = leaves;
  }

  -- no device call was made
  pub only-looked : Leaves (disk_of g old) (disk_of g new) (λ c. Represents c w)
      → Leaves (disk_of g old) (disk_of g new)
      (λ c. Represents c w ⊎ (AdmitsRows w number rows × Represents c (widened w rows)))
  only-looked leaves =
      leaves_weaker (λ (c : Content). Represents c w)
      (λ (c : Content). Represents c w ⊎ (AdmitsRows w number rows × Represents c (widened w rows))) (disk_of g old)
      (disk_of g new) (λ k c here. inl here) leaves

  pub adds-refused : (before : Option (List ℕ)) (fault : Fault) (result : Result Unit Fault)
      → RefusesRows g w number rows old new fault → (other : Fault) × (result ≡ Err other) × (other ≡ fault)
      → DoesAddition g w number rows old new before before result
  adds-refused before fault result refused stop = rw (stop.1, stop.2) (inl (refused, Keeps-refl before))

  pub adds-written : (before after : Option (List ℕ)) (taken : Taken) (additions : ℕ) (result : Result Unit Fault)
      → DeviceTakesRows g w number rows old new taken → additions ≡ (with_addition w number rows).additions
      → Writes before after result (addition_text number (row_total rows) taken additions)
      → DoesAddition g w number rows old new before after result
  adds-written before after taken additions (Ok done) takes many written = (
    subst (λ (t : Taken). DeviceTakesRows g w number rows old new t) takes.taken_is takes,
    subst (λ (n : ℕ). Appends before after (addition_text number (row_total rows) (addition_taken w number) n)) many
        (subst (λ (t : Taken). Appends before after (addition_text number (row_total rows) t additions)) takes.taken_is
        written),
  )
  adds-written before after taken additions (Err fault) takes many written = inr (
    written.0,
    subst (λ (t : Taken). DeviceTakesRows g w number rows old new t) takes.taken_is takes,
    subst (λ (n : ℕ). AppendsBeginning before after (addition_text number (row_total rows) (addition_taken w number) n))
        many
        (subst (λ (t : Taken). AppendsBeginning before after (addition_text number (row_total rows) t additions))
        takes.taken_is written.1),
  )
