-- Batches that are done one after the other, and one more.
use Rattle.std.proofs.Common.{◌≡◌, ◌⊎◌, ⊎_elim, inl, inr, ℕ, zero, suc, ◌+◌, ◌<◌, ◌≤◌, nat_le, if◌then◌else◌, true}
use Rattle.std.proofs.Common.{false, List, [], ◌∷◌, ◌++◌, length, slice_get, Option, Some, Result, Ok, Err, refl, sym}
use Rattle.std.proofs.Common.{ap, subst, ◌∙◌, arith, append_assoc, append-nil}
use Rattle.std.proofs.KnownBytes.{Keeps-refl}
use Rattle.std.proofs.lemmas.Bool.Decides.{nat_tests}
use Rattle.std.proofs.lemmas.List.{length-map, map-append}
use Rattle.std.specs.Io.KnownBytes.{Appends}
use Rattle.sector_device.specs.declared.device.Sectors.{Ghosts}
use Rattle.sector_device.specs.Device.{Image, IsImage}
use Rattle.cube_model.specs.declared.fault.Fault.{Fault}
use Rattle.cube_model.specs.declared.fault.Fault.TheVariants.{Device}
use Rattle.cube_model.specs.declared.rows.LineOrder.{LineOrder}
use Rattle.warehouse_objects.specs.Facts.{AdmitsBatch}
use Rattle.object_store.specs.Content.{Content}
use Rattle.object_store.specs.Disk.{Leaves, ShowsSome}
use Rattle.object_store.proofs.Moments.{begins, leaves_weaker}
use Rattle.ssb_reports.specs.Writing.{AppendsBeginning, Writes}
use Rattle.warehouse_objects.specs.Warehouse.{Warehouse, loaded}
use Rattle.warehouse_objects.specs.Represents.{Represents}
use Rattle.warehouse.specs.declared.session.Session.{Session}
use Rattle.warehouse.specs.Comparing.{numbered}
use Rattle.warehouse.specs.Session.{IsAt, device_of, disk_of, has_failed}
use Rattle.warehouse.proofs.Refusing.{device_or}
use Rattle.warehouse_jobs.specs.declared.taken.Taken.{Taken}
use Rattle.warehouse_jobs.specs.declared.taken.Taken.TheVariants.{Added, Skipped}
use Rattle.warehouse_jobs.specs.Loading.{BatchRefuses, Done, DoesAll, DoesBatch, LoadIsRefused, DeviceTakesBatch}
use Rattle.warehouse_jobs.specs.Loading.{batches_of}
use Rattle.warehouse_jobs.specs.Loading.{after_taking, batch_lines_in, batch_line_in, session_after, taken_of}
use Rattle.warehouse_jobs.specs.Loading.{with_batch}
use Rattle.warehouse_jobs.specs.Loading.{with_batches, written_after}
use Rattle.warehouse_jobs.specs.Printed.{batch_line}

-- which batch is passed over

above : (a b : ℕ) → b < a → nat_le a b ≡ false
above a b lt = grind (arith, nat_tests)

pub is_added : (w : Warehouse) (number : ℕ) → length w.batches < number → taken_of w number ≡ Added
is_added w number lt = ap (λ b. if b then Skipped else Added) (above number (length w.batches) lt)

pub with-added : (w : Warehouse) (number : ℕ) (rows : List LineOrder) → length w.batches < number
    → with_batch w number rows ≡ loaded w rows
with-added w number rows lt = ap (λ taken. after_taking taken w rows) (is_added w number lt)

above_or_at : (a b : ℕ) → a ≤ b → nat_le a b ≡ true
above_or_at a b le = grind (arith, nat_tests)

pub is_skipped : (w : Warehouse) (number : ℕ) → number ≤ length w.batches → taken_of w number ≡ Skipped
is_skipped w number le = ap (λ b. if b then Skipped else Added) (above_or_at number (length w.batches) le)

pub with-skipped : (w : Warehouse) (number : ℕ) (rows : List LineOrder) → number ≤ length w.batches
    → with_batch w number rows ≡ w
with-skipped w number rows le = ap (λ taken. after_taking taken w rows) (is_skipped w number le)

-- one batch more

pub with-last : (w : Warehouse) (number : ℕ) (batches : List (List LineOrder)) (rows : List LineOrder)
    → with_batches w number (batches ++ rows ∷ []) ≡ with_batch (with_batches w number batches)
    (number + length batches) rows
with-last w number [] rows = let same : number ≡ number + 0 = omega arith in ap (λ n. with_batch w n rows) same
with-last w number (batch ∷ batches) rows =
    let same : number + 1 + length batches ≡ number + length (batch ∷ batches) = omega arith in
    with-last (with_batch w number batch) (number + 1) batches rows
    ∙ ap (λ n. with_batch (with_batches (with_batch w number batch) (number + 1) batches) n rows) same

pub lines-last : (w : Warehouse) (number : ℕ) (batches : List (List LineOrder)) (rows : List LineOrder)
    → batch_lines_in w number (batches ++ rows ∷ []) ≡ batch_lines_in w number batches
    ++ batch_line_in (with_batches w number batches) (number + length batches) rows
lines-last w number [] rows =
    let same : number ≡ number + 0 = omega arith in
    append-nil (batch_line_in w number rows) ∙ ap (λ n. batch_line_in w n rows) same
lines-last w number (batch ∷ batches) rows =
    let same : number + 1 + length batches ≡ number + length (batch ∷ batches) = omega arith in
    let back = with_batches (with_batch w number batch) (number + 1) batches in
    let front = batch_lines_in (with_batch w number batch) (number + 1) batches in
    ap (λ l. batch_line_in w number batch ++ l) (lines-last (with_batch w number batch) (number + 1) batches rows)
    ∙ sym (append_assoc (batch_line_in w number batch) front (batch_line_in back (number + 1 + length batches) rows))
    ∙ ap (λ n. (batch_line_in w number batch ++ front) ++ batch_line_in back n rows) same

-- ---- a list of batches that were done, and one more

pub trace-batches : {D : Type 0} {g : Ghosts D} (trace : List (Done g)) (one : Done g)
    → batches_of (trace ++ one ∷ []) ≡ batches_of trace ++ one.rows ∷ []
trace-batches {D} {g} trace one = map-append (λ (d : Done g). d.rows) trace (one ∷ [])

pub trace-count : {D : Type 0} {g : Ghosts D} (trace : List (Done g)) → length (batches_of trace) ≡ length trace
trace-count {D} {g} trace = length-map trace (λ (d : Done g). d.rows)

pub trace-session : {D : Type 0} {g : Ghosts D} (old : Session D g) (trace : List (Done g)) (one : Done g)
    → session_after old (trace ++ one ∷ []) ≡ one.session
trace-session old [] one = refl
trace-session old (first ∷ trace) one = trace-session first.session trace one

pub trace-written : {D : Type 0} {g : Ghosts D} (before : Option (List ℕ)) (trace : List (Done g)) (one : Done g)
    → written_after before (trace ++ one ∷ []) ≡ one.written
trace-written before [] one = refl
trace-written before (first ∷ trace) one = trace-written first.written trace one

pub does-more : {D : Type 0} (g : Ghosts D) (old : Session D g) (before : Option (List ℕ)) (w : Warehouse) (number : ℕ)
    (trace : List (Done g)) (one : Done g) → DoesAll g old before w number trace
    → DeviceTakesBatch g (with_batches w number (batches_of trace)) (number + length trace) one.rows
    (session_after old trace)
    one.session (taken_of (with_batches w number (batches_of trace)) (number + length trace))
    → Appends (written_after before trace) one.written
    (batch_line_in (with_batches w number (batches_of trace)) (number + length trace) one.rows)
    → DoesAll g old before w number (trace ++ one ∷ [])
does-more g old before w number [] one all takes line =
    let same : number + 0 ≡ number = omega arith in (
      subst (λ n. DeviceTakesBatch g w n one.rows old one.session (taken_of w n)) same takes,
      subst (λ n. Appends before one.written (batch_line_in w n one.rows)) same line,
      tt,
    )
does-more g old before w number (first ∷ trace) one all takes line =
    let back = with_batches (with_batch w number first.rows) (number + 1) (batches_of trace) in
    let same : number + length (first ∷ trace) ≡ number + 1 + length trace = omega arith in (
      all.0,
      all.1,
      does-more g first.session first.written (with_batch w number first.rows) (number + 1) trace one all.2
          (subst (λ n. DeviceTakesBatch g back n one.rows (session_after first.session trace) one.session
          (taken_of back n)) same
          takes)
          (subst (λ n. Appends (written_after first.written trace) one.written (batch_line_in back n one.rows)) same
          line),
    )

-- what holds at each place of a list, and of one more
pub places-more : {A : Type 0} (P : ℕ → A → Type 0) (items : List A) (last : A)
    → ((place : ℕ) (item : A) → slice_get items place ≡ Some item → P place item) → P (length items) last
    → (place : ℕ) (item : A) → slice_get (items ++ last ∷ []) place ≡ Some item → P place item
places-more P [] last all one zero item is = let same : last ≡ item = cc in subst (λ x. P 0 x) same one
places-more P [] last all one (suc place) item is = absurd cc
places-more P (first ∷ items) last all one zero item is = all 0 item is
places-more P (first ∷ items) last all one (suc place) item is =
    places-more (λ k x. P (suc k) x) items last (λ k x. all (suc k) x) one place item is

-- at this moment a stop leaves what the session represents
pub still : {D : Type 0} (g : Ghosts D) (session : Session D g) (w : Warehouse)
    → ((device : D) (image : Image) → g.keeps_word device → (g.state device).left_since (g.state device).moment image
    → IsImage (g.state device) image)
    → IsAt g session w → Leaves (disk_of g session) (disk_of g session) (λ c. Represents c w)
still g session w only at =
    begins (ShowsSome (λ (c : Content). Represents c w)) (disk_of g session)
    (λ k image. only (device_of session) image k) at.all

-- what became of one batch

module _ {D : Type 0} (g : Ghosts D) (w : Warehouse) (number : ℕ) (rows : List LineOrder) (old new : Session D g) where
  pub takes-added : length w.batches < number → AdmitsBatch w number rows → IsAt g new (loaded w rows)
      → Leaves (disk_of g old) (disk_of g new)
      (λ c. Represents c w ⊎ (AdmitsBatch w number rows × Represents c (loaded w rows)))
      → DeviceTakesBatch g w number rows old new Added
  takes-added lt admissible at leaves = record {
    taken_is = sym (is_added w number lt);
    follows = λ _. admissible;
    same = λ le. absurd (omega (arith, lt, le));
    at = subst (λ (v : Warehouse). IsAt g new v) (sym (with-added w number rows lt)) at;
    leaves = leaves_weaker
        (λ (c : Content). Represents c w ⊎ (AdmitsBatch w number rows × Represents c (loaded w rows)))
        (λ (c : Content). Represents c w ⊎ Represents c (with_batch w number rows)) (disk_of g old) (disk_of g new)
        (λ k c here. ⊎_elim (λ s. inl s)
        (λ s. inr (subst (λ (v : Warehouse). Represents c v) (sym (with-added w number rows lt)) s.1)) here) leaves;
  }

  pub refuses : (fault : Fault) → (fault ≡ Device → has_failed new ≡ true)
      → ((fault ≡ Device → ⊥) → BatchRefuses g old w number rows fault × IsAt g new w)
      → Leaves (disk_of g old) (disk_of g new)
      (λ c. Represents c w ⊎ (AdmitsBatch w number rows × Represents c (loaded w rows)))
      → LoadIsRefused g w number rows old new fault
  refuses fault failed causes leaves = record {
    cause = ⊎_elim (λ e. inl (e, failed e)) (λ no. inr (causes no)) (device_or fault);
    leaves = leaves;
  }

  pub does-refused : (before : Option (List ℕ)) (fault : Fault) (result : Result Unit Fault)
      → LoadIsRefused g w number rows old new fault → (other : Fault) × (result ≡ Err other) × (other ≡ fault)
      → DoesBatch g w number rows old new before before result
  does-refused before fault result refused stop = rw (stop.1, stop.2) (inl (refused, Keeps-refl before))

  pub does-written : (before after : Option (List ℕ)) (taken : Taken) (result : Result Unit Fault)
      → DeviceTakesBatch g w number rows old new taken
      → Writes before after result (batch_line number (length rows) taken)
      → DoesBatch g w number rows old new before after result
  does-written before after taken (Ok done) takes written = (
    subst (λ (t : Taken). DeviceTakesBatch g w number rows old new t) takes.taken_is takes,
    subst (λ (t : Taken). Appends before after (batch_line number (length rows) t)) takes.taken_is written,
  )
  does-written before after taken (Err fault) takes written = inr (
    written.0,
    subst (λ (t : Taken). DeviceTakesBatch g w number rows old new t) takes.taken_is takes,
    subst (λ (t : Taken). AppendsBeginning before after (batch_line number (length rows) t)) takes.taken_is written.1,
  )

  -- the batch there was read, and nothing else was done
  pub takes-skipped : number ≤ length w.batches → numbered w.batches number ≡ Some rows → IsAt g new w
      → Leaves (disk_of g old) (disk_of g new) (λ c. Represents c w) → DeviceTakesBatch g w number rows old new Skipped
  takes-skipped le same at leaves = record {
    taken_is = sym (is_skipped w number le);
    follows = λ lt. absurd (omega (arith, lt, le));
    same = λ _. same;
    at = subst (λ (v : Warehouse). IsAt g new v) (sym (with-skipped w number rows le)) at;
    leaves = leaves_weaker (λ (c : Content). Represents c w)
        (λ (c : Content). Represents c w ⊎ Represents c (with_batch w number rows)) (disk_of g old) (disk_of g new)
        (λ k c here. inl here) leaves;
  }

  pub only-read : Leaves (disk_of g old) (disk_of g new) (λ c. Represents c w)
      → Leaves (disk_of g old) (disk_of g new)
      (λ c. Represents c w ⊎ (AdmitsBatch w number rows × Represents c (loaded w rows)))
  only-read leaves =
      leaves_weaker (λ (c : Content). Represents c w)
      (λ (c : Content). Represents c w ⊎ (AdmitsBatch w number rows × Represents c (loaded w rows)))
      (disk_of g old) (disk_of g new) (λ k c here. inl here) leaves
