-- Writes in the record of a file, of one sector and of neighbouring ones.
use Rattle.std.proofs.lemmas.Bool.{ne_eqb, eq-eqb}
use Rattle.std.proofs.Common.{Bool, true, false, if◌then◌else◌, ◌≡◌, ℕ, zero, suc, ◌+◌, ◌/◌, ◌<◌, List, [], ◌∷◌, length}
use Rattle.std.proofs.Common.{take, get_or, refl, add-one, sym, ◌∙◌, ap, subst, inl, Result, Ok, Err, OnOk, is_ok}
use Rattle.std.proofs.Common.{arith}
use Rattle.sector_device.specs.Device.{Image, WritesSector, WritesWithin, HasRun, IsInRun}
use Rattle.sector_device.proofs.WriteRuns.{none_written, one_written, within_then}
use Rattle.sector_device.proofs.CallerLemmas.{length-chunks, chunk_at}
use Rattle.sector_device.specs.History.{reads_after, HasKeptWord, file_state}
use Rattle.sector_device.proofs.HistoryLaws.{file_only_now}
use Rattle.sector_device.specs.EventRuns.{sectors_in, with_writes}
use Rattle.sector_device.specs.declared.event.Event.{Event}
use Rattle.sector_device.specs.declared.event.Event.TheVariants.{Written}
use Rattle.sector_device.proofs.HistorySteps.{passes}

-- one write more in the record
next_write : (first : ℕ) (sectors : List (List ℕ)) (ok : Bool) (k : ℕ) (events : List Event) → k < length sectors
    → Written (first + k) (get_or sectors k []) ok ∷ with_writes first (take k sectors) ok events
    ≡ with_writes first (take (suc k) sectors) ok events
next_write first [] ok k events lt = absurd (omega (arith, lt))
next_write first (b ∷ others) ok zero events lt = ap (λ (n : ℕ). Written n b ok ∷ events) (omega arith)
next_write first (b ∷ others) ok (suc k) events lt =
    ap (λ (n : ℕ). Written n (get_or others k []) ok
    ∷ with_writes (suc first) (take k others) ok (Written first b ok ∷ events)) (omega arith)
    ∙ next_write (suc first) others ok k (Written first b ok ∷ events) (omega (arith, lt))

pub noted_write : (first : ℕ) (sectors : List (List ℕ)) (ok : Bool) (k : ℕ) (start so_far : List Event)
    → k < length sectors
    → so_far ≡ with_writes first (take k sectors) ok start
    → Written (first + k) (get_or sectors k []) ok ∷ so_far ≡ with_writes first (take (k + 1) sectors) ok start
noted_write first sectors ok k start so_far lt is =
    ap (λ l. Written (first + k) (get_or sectors k []) ok ∷ l) is ∙ next_write first sectors ok k start lt
    ∙ ap (λ (n : ℕ). with_writes first (take n sectors) ok start) (sym (add-one k))

module _ (start : Image) where
  kept_below : (first : ℕ) (sectors : List (List ℕ)) (ok : Bool) (events : List Event)
      → HasKeptWord start (with_writes first sectors ok events) → HasKeptWord start events
  kept_below first [] ok events kept = kept
  kept_below first (b ∷ others) ok events kept =
      (kept_below (suc first) others ok (Written first b ok ∷ events) kept).1

  -- the file had kept its word before neighbouring sectors were written
  pub kept_if_written : (first : ℕ) (sectors : List (List ℕ)) (ok : Bool) (old new : List Event)
      → new ≡ with_writes first sectors ok old → HasKeptWord start new → HasKeptWord start old
  kept_if_written first sectors ok old new is kept =
      kept_below first sectors ok old (subst (HasKeptWord start) is kept)

  written_reads : (events : List Event) (i : ℕ) (bytes : List ℕ) → reads_after start (Written i bytes true ∷ events) i
      ≡ bytes
  written_reads events i bytes = ap (λ (b : Bool). if b then bytes else reads_after start events i) (eq-eqb i i refl)

module _ (size : ℕ) (start : Image) (at_first : ℕ → List ℕ → Type 0) where
  writes_one : (events : List Event) (i : ℕ) (bytes : List ℕ) (ok : Bool)
      → WritesSector i bytes (file_state size start at_first events)
      (file_state size start at_first (Written i bytes ok ∷ events))
  writes_one events i bytes true = record {
    others = λ j ne. ap (λ (b : Bool). if b then bytes else reads_after start events j) (ne_eqb j i ne);
    no_more = λ j x may. may;
    no_fewer = λ j x may. inl may;
    time = passes size start at_first events (Written i bytes true);
  }
  writes_one events i bytes false = record {
    others = λ j ne. refl;
    no_more = λ j x may. may;
    no_fewer = λ j x may. inl may;
    time = passes size start at_first events (Written i bytes false);
  }

  -- a write more in the record
  pub one_noted : (i : ℕ) (bytes : List ℕ) (ok : Bool) (old new : List Event) → new ≡ Written i bytes ok ∷ old
      → WritesSector i bytes (file_state size start at_first old) (file_state size start at_first new)
  one_noted i bytes ok old new is =
      subst (λ (l : List Event). WritesSector i bytes (file_state size start at_first old)
      (file_state size start at_first l)) (sym is) (writes_one old i bytes ok)

  within_run : (first : ℕ) (sectors : List (List ℕ)) (ok : Bool) (events : List Event)
      → WritesWithin (IsInRun first (length sectors)) (file_state size start at_first events)
      (file_state size start at_first (with_writes first sectors ok events))
  within_run first [] ok events =
      none_written (IsInRun first 0) (file_state size start at_first events) (file_only_now start at_first events)
  within_run first (b ∷ others) ok events =
      let next = Written first b ok ∷ events in
      let all : ℕ → Type 0 = IsInRun first (suc (length others)) in
      let now = file_state size start at_first events in
      let mid = file_state size start at_first next in
      let one : WritesWithin all now mid =
      one_written all now now mid first b (omega arith, omega arith)
      (none_written all now (file_only_now start at_first events)) (writes_one events first b ok) in
      within_then all (IsInRun (suc first) (length others)) now mid
      (file_state size start at_first (with_writes (suc first) others ok next))
      (λ i in_it. (omega (arith, in_it.0), omega (arith, in_it.1))) one
      (within_run (suc first) others ok next)

  -- where neighbouring sectors are written, no other is
  pub within_written : (first : ℕ) (bytes : List ℕ) (ok : Bool) (old new : List Event)
      → new ≡ with_writes first (sectors_in bytes) ok old
      → WritesWithin (IsInRun first (length bytes / 512)) (file_state size start at_first old)
      (file_state size start at_first new)
  within_written first bytes ok old new is =
      let long : length (sectors_in bytes) ≡ length bytes / 512 = length-chunks (length bytes / 512) bytes in
      subst (λ (n : ℕ). WritesWithin (IsInRun first n) (file_state size start at_first old)
      (file_state size start at_first new)) long
      (subst (λ (l : List Event). WritesWithin (IsInRun first (length (sectors_in bytes)))
      (file_state size start at_first old) (file_state size start at_first l)) (sym is)
      (within_run first (sectors_in bytes) ok old))

  has_run : (first : ℕ) (sectors : List (List ℕ)) (events : List Event) (k : ℕ) → k < length sectors
      → get_or sectors k [] ≡ reads_after start (with_writes first sectors true events) (first + k)
  has_run first [] events k lt = absurd (omega (arith, lt))
  has_run first (b ∷ others) events zero lt =
      let next = Written first b true ∷ events in
      let later = reads_after start (with_writes (suc first) others true next) in
      let here : first + 0 ≡ first = omega arith in
      let stays : later first ≡ reads_after start next first =
      (within_run (suc first) others true next).others first (λ in_it. omega (arith, in_it.0)) in
      sym (ap later here ∙ stays ∙ written_reads start events first b)
  has_run first (b ∷ others) events (suc k) lt =
      let next = Written first b true ∷ events in
      let there : suc first + k ≡ first + suc k = omega arith in
      has_run (suc first) others next k (omega (arith, lt))
      ∙ ap (reads_after start (with_writes (suc first) others true next)) there

  has_written : (first : ℕ) (bytes : List ℕ) (events : List Event)
      → HasRun (reads_after start (with_writes first (sectors_in bytes) true events)) first bytes
  has_written first bytes events k lt =
      sym (chunk_at (length bytes / 512) k bytes lt)
      ∙ has_run first (sectors_in bytes) events k (omega (arith, lt, length-chunks (length bytes / 512) bytes))

  -- and where that went well, they hold what was written
  pub run_if_written : {T E : Type 0} (Word : Type 0) (r : Result T E) (ok : Bool) (first : ℕ) (bytes : List ℕ)
      (old new : List Event) → is_ok r ≡ ok
      → new ≡ with_writes first (sectors_in bytes) ok old → OnOk r (Word → HasRun (reads_after start new) first bytes)
  run_if_written Word (Ok x) ok first bytes old new fine is = λ word.
      subst (λ (l : List Event). HasRun (reads_after start l) first bytes)
      (sym (is ∙ ap (λ (b : Bool). with_writes first (sectors_in bytes) b old) (sym fine)))
      (has_written first bytes old)
  run_if_written Word (Err e) ok first bytes old new fine is = tt
