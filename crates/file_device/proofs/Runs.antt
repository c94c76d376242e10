-- Neighbouring sectors that were read at once change nothing, and are what reads give.
use Rattle.std.proofs.Common.{Result, Ok, Err, MatchResult, OnOk, is_ok, ◌≡◌, ℕ, zero, suc, ◌+◌, ◌/◌, ◌<◌, List, []}
use Rattle.std.proofs.Common.{◌∷◌, length, take, get_or, refl, add-one, sym, ◌∙◌, ap, subst, inl, true≢false, arith}
use Rattle.sector_device.specs.Device.{Image, CandidatesStay, HasRun}
use Rattle.sector_device.proofs.WriteRuns.{stays_then}
use Rattle.sector_device.proofs.CallerLemmas.{length-chunks, chunk_at}
use Rattle.sector_device.specs.History.{reads_after, HasKeptWord, file_state}
use Rattle.sector_device.specs.EventRuns.{sectors_in, with_reads}
use Rattle.sector_device.specs.declared.event.Event.{Event}
use Rattle.sector_device.specs.declared.event.Event.TheVariants.{Read}
use Rattle.sector_device.proofs.HistorySteps.{passes}

-- one sector more in the record
next_read : (first : ℕ) (sectors : List (List ℕ)) (k : ℕ) (events : List Event) → k < length sectors
    → Read (first + k) (get_or sectors k []) ∷ with_reads first (take k sectors) events
    ≡ with_reads first (take (suc k) sectors) events
next_read first [] k events lt = absurd (omega (arith, lt))
next_read first (b ∷ others) zero events lt = ap (λ (n : ℕ). Read n b ∷ events) (omega arith)
next_read first (b ∷ others) (suc k) events lt =
    ap (λ (n : ℕ). Read n (get_or others k []) ∷ with_reads (suc first) (take k others) (Read first b ∷ events))
    (omega arith)
    ∙ next_read (suc first) others k (Read first b ∷ events) (omega (arith, lt))

pub noted : (first : ℕ) (sectors : List (List ℕ)) (k : ℕ) (start so_far : List Event) → k < length sectors
    → so_far ≡ with_reads first (take k sectors) start
    → Read (first + k) (get_or sectors k []) ∷ so_far ≡ with_reads first (take (k + 1) sectors) start
noted first sectors k start so_far lt is =
    ap (λ l. Read (first + k) (get_or sectors k []) ∷ l) is ∙ next_read first sectors k start lt
    ∙ ap (λ (n : ℕ). with_reads first (take n sectors) start) (sym (add-one k))

module _ (start : Image) where
  kept-before : (first : ℕ) (sectors : List (List ℕ)) (events : List Event)
      → HasKeptWord start (with_reads first sectors events) → HasKeptWord start events
  kept-before first [] events kept = kept
  kept-before first (b ∷ others) events kept = (kept-before (suc first) others (Read first b ∷ events) kept).1

  are_before : (first : ℕ) (sectors : List (List ℕ)) (events : List Event)
      → HasKeptWord start (with_reads first sectors events) → (k : ℕ) → k < length sectors
      → get_or sectors k [] ≡ reads_after start events (first + k)
  are_before first [] events kept k lt = absurd (omega (arith, lt))
  are_before first (b ∷ others) events kept zero lt =
      (kept-before (suc first) others (Read first b ∷ events) kept).0 ∙ ap (reads_after start events) (omega arith)
  are_before first (b ∷ others) events kept (suc k) lt =
      are_before (suc first) others (Read first b ∷ events) kept k (omega (arith, lt))
      ∙ ap (reads_after start events) (omega arith)

  -- the file had kept its word before a run was read
  pub kept_if_run_read : {T E : Type 0} (r : Result T E) (first : ℕ) (sectors : List (List ℕ)) (old new : List Event)
      → MatchResult r (λ _. new ≡ with_reads first sectors old) (λ _. new ≡ old) → HasKeptWord start new
      → HasKeptWord start old
  kept_if_run_read (Ok x) first sectors old new is kept =
      kept-before first sectors old (subst (HasKeptWord start) is kept)
  kept_if_run_read (Err e) first sectors old new is kept = subst (HasKeptWord start) is kept

  has_read : (first : ℕ) (bytes : List ℕ) (events : List Event)
      → HasKeptWord start (with_reads first (sectors_in bytes) events) → HasRun (reads_after start events) first bytes
  has_read first bytes events kept k lt =
      sym (chunk_at (length bytes / 512) k bytes lt)
      ∙ are_before first (sectors_in bytes) events kept k
      (omega (arith, lt, length-chunks (length bytes / 512) bytes))

  -- a run that was read is what reads give
  pub run_if_read : {T E T' E' : Type 0} (r : Result T E) (outcome : Result T' E') (first : ℕ) (bytes : List ℕ)
      (old new : List Event)
      → is_ok r ≡ is_ok outcome
      → MatchResult outcome (λ _. new ≡ with_reads first (sectors_in bytes) old) (λ _. new ≡ old)
      → OnOk r (HasKeptWord start new → HasRun (reads_after start old) first bytes)
  run_if_read (Ok x) (Ok y) first bytes old new same is =
      λ kept. has_read first bytes old (subst (HasKeptWord start) is kept)
  run_if_read (Ok x) (Err e) first bytes old new same is = absurd (true≢false same)
  run_if_read (Err e) outcome first bytes old new same is = tt

module _ (size : ℕ) (start : Image) (at_first : ℕ → List ℕ → Type 0) where
  stays_read : (events : List Event) (i : ℕ) (bytes : List ℕ)
      → CandidatesStay (file_state size start at_first events) (file_state size start at_first (Read i bytes ∷ events))
  stays_read events i bytes =
      record {
        reads = λ i. refl;
        no_more = λ i b may. may;
        no_fewer = λ i b may. may;
        time = passes size start at_first events (Read i bytes);
      }

  stays_same : (events : List Event)
      → CandidatesStay (file_state size start at_first events) (file_state size start at_first events)
  stays_same events =
      record {
        reads = λ i. refl;
        no_more = λ i b may. may;
        no_fewer = λ i b may. may;
        time = record {
          later = omega arith;
          nothing_else = λ t image le left. inl left;
          keeps = λ t image le left. left;
        };
      }

  stays_reads : (first : ℕ) (sectors : List (List ℕ)) (events : List Event)
      → CandidatesStay (file_state size start at_first events)
      (file_state size start at_first (with_reads first sectors events))
  stays_reads first [] events = stays_same events
  stays_reads first (b ∷ others) events =
      stays_then _ _ _ (stays_read events first b) (stays_reads (suc first) others (Read first b ∷ events))

  pub stays_if_run_read : {T E : Type 0} (r : Result T E) (first : ℕ) (sectors : List (List ℕ)) (old new : List Event)
      → MatchResult r (λ _. new ≡ with_reads first sectors old) (λ _. new ≡ old)
      → CandidatesStay (file_state size start at_first old) (file_state size start at_first new)
  stays_if_run_read (Ok x) first sectors old new is =
      subst (λ (l : List Event). CandidatesStay (file_state size start at_first old) (file_state size start at_first l))
      (sym is)
      (stays_reads first sectors old)
  stays_if_run_read (Err e) first sectors old new is =
      subst (λ (l : List Event). CandidatesStay (file_state size start at_first old) (file_state size start at_first l))
      (sym is)
      (stays_same old)
