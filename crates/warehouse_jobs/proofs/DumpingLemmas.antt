-- Rows that were written as lines, batch after batch.
use Rattle.std.proofs.Common.{◌≡◌, ◌⊎◌, ⊎_elim, inl, inr, ◌∙◌, ap, sym, subst, refl, ℕ, ◌+◌, ◌<◌, ◌≤◌, Bool, true}
use Rattle.std.proofs.Common.{false, List, [], ◌++◌}
use Rattle.std.proofs.Common.{length, take, slice_get, Option, Some, None, Result, Ok, Err, IfErr, add-one}
use Rattle.std.specs.Prelude.{◌&&◌, OnOk}
use Rattle.std.specs.Io.KnownBytes.{Appends}
use Rattle.std.specs.List.{list_all}
use Rattle.std.proofs.KnownBytes.{Appends-nil, Appends-trans, Keeps-refl}
use Rattle.std.proofs.lemmas.Grind.{flat_map-append}
use Rattle.std.proofs.lemmas.List.{take_all}
use Rattle.std.proofs.lemmas.List.Folds.{list_all-append}
use Rattle.cube_model.specs.declared.fault.Fault.{Fault}
use Rattle.cube_model.specs.declared.fault.Fault.TheVariants.{BadLayout, Device, Failed, Memory, NoSuchPrefix, Output}
use Rattle.cube_model.specs.declared.rows.LineOrder.{LineOrder}
use Rattle.cube_model.specs.Admission.{all_rows}
use Rattle.ssb_reports.specs.Report.{row_text}
use Rattle.table_texts.specs.Spellable.{WritesTable, is_spellable}
use Rattle.table_texts.specs.Texts.{fact_fields, facts_text}
use Rattle.warehouse_objects.proofs.Batches.{get_within, rows_next}
use Rattle.warehouse.specs.Comparing.{numbered}
use Rattle.warehouse_jobs.specs.Dumped.{RowsAreWritten, RefusesAfter, DumpIsRefused, RowsAreRefused}

-- ---- one batch

module _ (rows : List LineOrder) (old new : Option (List ℕ)) where
  -- the table of some rows was written, and whether lines can spell them
  abbrev pub Wrote : Bool → Result Unit Fault → Type 0
  Wrote test result = WritesTable test old new result (facts_text rows)

  written_by : (test : Bool) → list_all is_spellable rows ≡ test → Wrote test (Ok tt) → RowsAreWritten rows old new
  written_by true is writes = record { spellable = is; lines = writes }
  written_by false is writes = absurd (let no : Ok tt ≡ Err BadLayout = writes.0 in cc)

  refused_by : (test : Bool) → list_all is_spellable rows ≡ test → (fault : Fault) → Wrote test (Err fault)
      → RowsAreRefused rows old new fault
  refused_by true is fault writes = subst (RowsAreRefused rows old new) (sym writes.0) (is, writes.1)
  refused_by false is fault writes =
      let bad : fault ≡ BadLayout = let both : Err fault ≡ Err BadLayout = writes.0 in cc in
      subst (RowsAreRefused rows old new) (sym bad) (is, writes.1)

  never_by : (test : Bool) (fault : Fault) → (fault ≡ Output → ⊥) → (fault ≡ BadLayout → ⊥) → Wrote test (Err fault) → ⊥
  never_by true fault output bad writes = output writes.0
  never_by false fault output bad writes = bad (let both : Err fault ≡ Err BadLayout = writes.0 in cc)

  module _ (result : Result Unit Fault) (writes : Wrote (list_all is_spellable rows) result) where
    never : (fault : Fault) → (fault ≡ Output → ⊥) → (fault ≡ BadLayout → ⊥) → result ≡ Err fault → ⊥
    never fault output bad is =
        never_by (list_all is_spellable rows) fault output bad (subst (Wrote (list_all is_spellable rows)) is writes)

    -- no device fails in it
    pub never_device : result ≡ Err Device → ⊥
    never_device is = never Device (λ e. cc) (λ e. cc) is

    pub never_failed : result ≡ Err Failed → ⊥
    never_failed is = never Failed (λ e. cc) (λ e. cc) is

  -- what was done then
  pub rows_written : (result : Result Unit Fault) → Wrote (list_all is_spellable rows) result
      → OnOk result (RowsAreWritten rows old new)
  rows_written (Ok done) writes = written_by (list_all is_spellable rows) refl writes
  rows_written (Err fault) writes = tt

  pub rows_refused : (result : Result Unit Fault) → Wrote (list_all is_spellable rows) result
      → IfErr result (RowsAreRefused rows old new)
  rows_refused (Ok done) writes = tt
  rows_refused (Err fault) writes = refused_by (list_all is_spellable rows) refl fault writes

-- ---- the batches of a warehouse

device_or : (fault : Fault) → (fault ≡ Device) ⊎ (fault ≡ Device → ⊥)
device_or Device = inl refl
device_or fault = inr (λ e. cc)

of_any : (batch : Option (List LineOrder)) (a : Option (List ℕ)) → DumpIsRefused batch a a Memory
    × DumpIsRefused batch a a Device
of_any None a = (Keeps-refl a, Keeps-refl a)
of_any (Some rows) a = (Keeps-refl a, Keeps-refl a)

-- the rows of a batch are not read
pub not_read : (batch : Option (List LineOrder)) (a : Option (List ℕ)) (fault : Fault)
    → ((fault ≡ Device → ⊥) → fault ≡ Memory)
    → DumpIsRefused batch a a fault
not_read batch a fault why =
    ⊎_elim (λ (device : fault ≡ Device). subst (DumpIsRefused batch a a) (sym device) (of_any batch a).1)
    (λ (other : fault ≡ Device → ⊥). subst (DumpIsRefused batch a a) (sym (why other)) (of_any batch a).0)
    (device_or fault)

module _ (found batch : Option (List LineOrder)) (same : found ≡ batch) where
  -- a batch that is there is not written
  pub batch_refused : (rows : List LineOrder) → found ≡ Some rows → (old new : Option (List ℕ)) (fault : Fault)
      → RowsAreRefused rows old new fault → DumpIsRefused batch old new fault
  batch_refused rows is old new fault refused =
      subst (λ (b : Option (List LineOrder)). DumpIsRefused b old new fault) (sym (sym same ∙ is)) refused

  -- there is no batch of the number
  pub none_there : found ≡ None → (a : Option (List ℕ)) → DumpIsRefused batch a a NoSuchPrefix
  none_there is a = subst (λ (b : Option (List LineOrder)). DumpIsRefused b a a NoSuchPrefix) (sym (sym same ∙ is))
      (Keeps-refl a)

pub nothing_written : (a : Option (List ℕ)) → RowsAreWritten [] a a
nothing_written a = record { spellable = refl; lines = Appends-nil a }

-- some rows were written, and then others
written_then : (first second : List LineOrder) (old mid new : Option (List ℕ)) → RowsAreWritten first old mid
    → RowsAreWritten second mid new
    → RowsAreWritten (first ++ second) old new
written_then first second old mid new one two =
    let both : facts_text (first ++ second) ≡ facts_text first ++ facts_text second =
    flat_map-append (λ (row : LineOrder). row_text (fact_fields row)) first second in record {
      spellable = list_all-append is_spellable first second
          ∙ ap (λ (b : Bool). b && list_all is_spellable second) one.spellable ∙ two.spellable;
      lines = subst (Appends old new) (sym both)
          (Appends-trans old mid new (facts_text first) (facts_text second) one.lines two.lines);
    }

module _ (batches : List (List LineOrder)) where
  module _ (before : ℕ) (old mid new : Option (List ℕ))
      (first : RowsAreWritten (all_rows (take before batches)) old mid)
    where
      -- one batch more
      pub written_next : (rows : List LineOrder) × (numbered batches (before + 1) ≡ Some rows)
          × RowsAreWritten rows mid new
          → RowsAreWritten (all_rows (take (before + 1) batches)) old new
      written_next (rows, there, next) =
          let here : slice_get batches before ≡ Some rows = sym (ap (numbered batches) (add-one before)) ∙ there in
          let all : all_rows (take (before + 1) batches) ≡ all_rows (take before batches) ++ rows =
          ap (λ (n : ℕ). all_rows (take n batches)) (add-one before) ∙ rows_next batches before rows here in
          subst (λ (l : List LineOrder). RowsAreWritten l old new) (sym all)
          (written_then (all_rows (take before batches)) rows old mid new first next)

      -- the next one is refused
      pub refused_next : before < length batches → (fault : Fault)
          → DumpIsRefused (numbered batches (before + 1)) mid new fault
          → RefusesAfter batches old new fault
      refused_next lt fault refused =
          let got = get_within batches before lt in
          let there : numbered batches (before + 1) ≡ Some got.0 = ap (numbered batches) (add-one before) ∙ got.1 in
          record {
            count = before;
            next = got.0;
            is_next = got.1;
            between = mid;
            first = first;
            refused = subst (λ (b : Option (List LineOrder)). DumpIsRefused b mid new fault) there refused;
          }

  pub all_written : (count : ℕ) → length batches ≤ count → (old new : Option (List ℕ))
      → RowsAreWritten (all_rows (take count batches)) old new
      → RowsAreWritten (all_rows batches) old new
  all_written count end old new written =
      subst (λ (l : List (List LineOrder)). RowsAreWritten (all_rows l) old new) (take_all count batches end) written
