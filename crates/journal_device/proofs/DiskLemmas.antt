-- Lemmas of `disk`, by subject.
use Rattle.std.proofs.Common.{◌≡◌, ⊎_elim, inl, ℕ, ◌≤◌, ◌<◌, ◌==◌, Bool, true, if◌then◌else◌, List, []}
use Rattle.std.proofs.Common.{◌∷◌, ◌++◌, length, map, Option, Some, None, Result, Ok, Err, OnOk, OnErr, ◌*◌, ◌/◌, drop}
use Rattle.std.proofs.Common.{nat_eq, refl, sym, ◌∙◌, ap, subst, arith}
use Rattle.std.proofs.lemmas.Bool.{cases_eq, ne_eqb, eq-eqb}
use Rattle.std.proofs.lemmas.List.{reverse-append, length-drop, length-take-le}
use Rattle.sector_device.proofs.CallerLemmas.{chunk_at, length-chunks}
use Rattle.std.specs.Option.{unwrap_or}
use Rattle.sector_device.specs.Device.{Image, DeviceState, Elapses, IsSettled, Syncs, WritesSector}
use Rattle.sector_device.specs.Memory.{content}
use Rattle.sector_device.specs.History.{FileMayHold, file_state, reads_after}
use Rattle.sector_device.proofs.HistorySteps.{passes}
use Rattle.sector_device.proofs.HistoryLaws.{file_read_may_stay}
use Rattle.sector_device.specs.declared.event.Event.{Event}
use Rattle.sector_device.specs.declared.event.Event.TheVariants.{Written, Synced}
use Rattle.sector_device.specs.EventRuns.{sectors_in}
use Rattle.journal_device.specs.Calls.{event_of, record_of, IsWithin}
use Rattle.journal_device.specs.After.{state_after, CallsAreWhole}
use Rattle.journal_device.specs.Latest.{ShowsLatest, last_at}
use Rattle.journal_device.specs.declared.call.Call.{Call}
use Rattle.journal_device.specs.declared.call.Call.TheVariants.{Write, Sync}

-- ==== One call more on a file.

-- the record of one call more
pub record_next : (calls : List Call) (call : Call) → record_of (calls ++ call ∷ []) ≡ event_of call ∷ record_of calls
record_next calls call = ap (map event_of) (reverse-append calls (call ∷ []))

module _ (size : ℕ) (start : Image) (at_first : ℕ → List ℕ → Type 0) (events : List Event) where
  writes_event : (i : ℕ) (bytes : List ℕ)
      → WritesSector i bytes (file_state size start at_first events)
      (file_state size start at_first (Written i bytes true ∷ events))
  writes_event i bytes = record {
    others = λ j ne. ap (λ (b : Bool). if b then bytes else reads_after start events j) (ne_eqb j i ne);
    no_more = λ j x may. may;
    no_fewer = λ j x may. inl may;
    time = passes size start at_first events (Written i bytes true);
  }

  syncs_event : ((i : ℕ) → at_first i (start i))
      → Syncs (file_state size start at_first events) (file_state size start at_first (Synced true ∷ events))
  syncs_event stays = record {
    reads = λ i. refl;
    no_more = λ i b may. subst (FileMayHold start at_first events i) (sym may)
        (file_read_may_stay start at_first stays events i);
    time = passes size start at_first events (Synced true);
  }

module _ (image : List ℕ) (calls : List Call) where
  pub writes : (i : ℕ) (bytes : List ℕ)
      → WritesSector i bytes (state_after image calls) (state_after image (calls ++ Write i bytes ∷ []))
  writes i bytes =
      subst (λ (l : List Event). WritesSector i bytes (state_after image calls)
      (file_state (length (sectors_in image)) (content (sectors_in image)) (λ j b. b ≡ content (sectors_in image) j)
      l))
      (sym (record_next calls (Write i bytes)))
      (writes_event (length (sectors_in image)) (content (sectors_in image)) (λ j b. b ≡ content (sectors_in image) j)
      (record_of calls) i bytes)

  pub syncs : Syncs (state_after image calls) (state_after image (calls ++ Sync ∷ []))
  syncs =
      subst (λ (l : List Event). Syncs (state_after image calls)
      (file_state (length (sectors_in image)) (content (sectors_in image)) (λ j b. b ≡ content (sectors_in image) j)
      l))
      (sym (record_next calls Sync))
      (syncs_event (length (sectors_in image)) (content (sectors_in image)) (λ j b. b ≡ content (sectors_in image) j)
      (record_of calls) (λ j. refl))

  -- a read gives what was written
  reads_written : (i : ℕ) (bytes : List ℕ) (k : ℕ) → (state_after image (calls ++ Write i bytes ∷ [])).reads k
      ≡ (if k == i then bytes else (state_after image calls).reads k)
  reads_written i bytes k =
      ap (λ (l : List Event). reads_after (content (sectors_in image)) l k) (record_next calls (Write i bytes))

  reads_synced : (k : ℕ) → (state_after image (calls ++ Sync ∷ [])).reads k ≡ (state_after image calls).reads k
  reads_synced k = ap (λ (l : List Event). reads_after (content (sectors_in image)) l k) (record_next calls Sync)

  pub written : (i : ℕ) (bytes : List ℕ) → (state_after image (calls ++ Write i bytes ∷ [])).reads i ≡ bytes
  written i bytes = reads_written i bytes i
      ∙ ap (λ (t : Bool). if t then bytes else (state_after image calls).reads i) (eq-eqb i i refl)

  -- after a sync each sector has one candidate
  pub settled : IsSettled (state_after image (calls ++ Sync ∷ []))
  settled =
      subst (λ (l : List Event). IsSettled
      (file_state (length (sectors_in image)) (content (sectors_in image)) (λ j b. b ≡ content (sectors_in image) j)
      l))
      (sym (record_next calls Sync)) (λ i b may. may)

  -- what is kept agrees after a write
  pub agrees_written : (i : ℕ) (bytes : List ℕ) (old new : List (ℕ × List ℕ))
      → ShowsLatest (content (sectors_in image)) (state_after image calls).reads old
      → ((k : ℕ) → last_at new k ≡ (if nat_eq i k then Some bytes else last_at old k))
      → ShowsLatest (content (sectors_in image)) (state_after image (calls ++ Write i bytes ∷ [])).reads new
  agrees_written i bytes old new agrees kept k =
      let shown : unwrap_or (last_at new k) (content (sectors_in image) k)
      ≡ unwrap_or (if nat_eq i k then Some bytes else last_at old k) (content (sectors_in image) k) =
      ap (λ (o : Option (List ℕ)). unwrap_or o (content (sectors_in image) k)) (kept k) in
      shown ∙ ⊎_elim
      (λ is. ap (λ (t : Bool). unwrap_or (if t then Some bytes else last_at old k) (content (sectors_in image) k))
      (eq-eqb i k (sym is))
      ∙ sym (ap (λ (t : Bool). if t then bytes else (state_after image calls).reads k) (eq-eqb k i is)))
      (λ ne. ap (λ (t : Bool). unwrap_or (if t then Some bytes else last_at old k) (content (sectors_in image) k))
      (ne_eqb i k (λ e. ne (sym e)))
      ∙ agrees k ∙ sym (ap (λ (t : Bool). if t then bytes else (state_after image calls).reads k) (ne_eqb k i ne)))
      (cases_eq k i)
      ∙ sym (reads_written i bytes k)

  pub agrees_synced : (latest : List (ℕ × List ℕ))
      → ShowsLatest (content (sectors_in image)) (state_after image calls).reads latest
      → ShowsLatest (content (sectors_in image)) (state_after image (calls ++ Sync ∷ [])).reads latest
  agrees_synced latest agrees k = agrees k ∙ sym (reads_synced k)

  -- what is written is whole, so each candidate is
  pub whole_written : (i : ℕ) (bytes : List ℕ) → length bytes ≡ 512 → CallsAreWhole image calls
      → CallsAreWhole image (calls ++ Write i bytes ∷ [])
  whole_written i bytes long whole =
      subst (λ (l : List Event). (j : ℕ) (b : List ℕ) → j < length (sectors_in image)
      → FileMayHold (content (sectors_in image)) (λ k x. x ≡ content (sectors_in image) k) l j b → length b ≡ 512)
      (sym (record_next calls (Write i bytes)))
      (λ j b lt may. ⊎_elim (λ was. whole j b lt was) (λ put. ap length put.1 ∙ long) may)

  pub whole_synced : CallsAreWhole image calls → CallsAreWhole image (calls ++ Sync ∷ [])
  whole_synced whole =
      subst (λ (l : List Event). (j : ℕ) (b : List ℕ) → j < length (sectors_in image)
      → FileMayHold (content (sectors_in image)) (λ k x. x ≡ content (sectors_in image) k) l j b → length b ≡ 512)
      (sym (record_next calls Sync))
      (λ j b lt may. ap length may
      ∙ whole j ((state_after image calls).reads j) lt
      (file_read_may_stay (content (sectors_in image)) (λ k x. x ≡ content (sectors_in image) k) (λ k. refl)
      (record_of calls) j))

-- a read of a sector of which nothing was kept, and of one of which something was
pub read_kept : (before now : Image) (latest : List (ℕ × List ℕ)) (i : ℕ) (bytes : List ℕ)
    → ShowsLatest before now latest
    → last_at latest i ≡ Some bytes → bytes ≡ now i
read_kept before now latest i bytes agrees is = sym (ap (λ (o : Option (List ℕ)). unwrap_or o (before i)) is) ∙ agrees i

pub read_unkept : (before now : Image) (latest : List (ℕ × List ℕ)) (i : ℕ) → ShowsLatest before now latest
    → last_at latest i ≡ None → before i ≡ now i
read_unkept before now latest i agrees is = sym (ap (λ (o : Option (List ℕ)). unwrap_or o (before i)) is) ∙ agrees i

-- where a call was recorded or not
module _ {T E : Type 0} where
  pub either : (P : List Call → Type 0) (r : Result T E) (calls more new : List Call) → OnOk r (new ≡ more)
      → OnErr r (new ≡ calls) → P more → P calls → P new
  either P (Ok x) calls more new ok err then_has now_has = subst P (sym ok) then_has
  either P (Err e) calls more new ok err then_has now_has = subst P (sym err) now_has

  pub agrees_either : (r : Result T E) (image : List ℕ) (calls new : List Call) (i : ℕ) (bytes : List ℕ)
      (latest after : List (ℕ × List ℕ))
      → OnOk r (new ≡ calls ++ Write i bytes ∷ [])
      → OnOk r ((k : ℕ) → last_at after k ≡ (if nat_eq i k then Some bytes else last_at latest k))
      → OnErr r ((new ≡ calls) × (after ≡ latest))
      → ShowsLatest (content (sectors_in image)) (state_after image calls).reads latest
      → ShowsLatest (content (sectors_in image)) (state_after image new).reads after
  agrees_either (Ok x) image calls new i bytes latest after ok kept err agrees =
      subst (λ (c : List Call). ShowsLatest (content (sectors_in image)) (state_after image c).reads after) (sym ok)
      (agrees_written image calls i bytes latest after agrees kept)
  agrees_either (Err e) image calls new i bytes latest after ok kept err agrees =
      subst (λ (c : List Call). ShowsLatest (content (sectors_in image)) (state_after image c).reads after) (sym err.0)
      (subst (λ (l : List (ℕ × List ℕ)). ShowsLatest (content (sectors_in image)) (state_after image calls).reads l)
      (sym err.1) agrees)

  pub no_call : (r : Result T E) (calls new : List Call) (A : Type 0) → OnErr r ((new ≡ calls) × A)
      → OnErr r (new ≡ calls)
  no_call (Ok x) calls new A err = tt
  no_call (Err e) calls new A err = err.0

-- nothing happened
same_time : (s : DeviceState) → Elapses s s
same_time s =
    record { later = omega arith; nothing_else = λ t image le left. inl left; keeps = λ t image le left. left }

pub writes_nothing : (i : ℕ) (bytes : List ℕ) (s : DeviceState) → WritesSector i bytes s s
writes_nothing i bytes s =
    record { others = λ j ne. refl; no_more = λ j b may. inl may; no_fewer = λ j b may. may; time = same_time s }

pub syncs_nothing : (s : DeviceState) → Syncs s s
syncs_nothing s = record { reads = λ j. refl; no_more = λ j b may. may; time = same_time s }

-- before the first call
pub whole_at_first : (image : List ℕ) → CallsAreWhole image []
whole_at_first image i b lt is =
    let room : 512 ≤ length (drop (i * 512) image) =
    omega (arith, lt, length-chunks (length image / 512) image, length-drop (i * 512) image) in
    ap length (is ∙ chunk_at (length image / 512) i image (omega (arith, lt, length-chunks (length image / 512) image)))
    ∙ length-take-le 512 (drop (i * 512) image) room

pub agrees_at_first : (image : List ℕ) (calls : List Call) (latest : List (ℕ × List ℕ)) → calls ≡ [] → latest ≡ []
    → ShowsLatest (content (sectors_in image)) (state_after image calls).reads latest
agrees_at_first image calls latest none empty i =
    ap (λ (l : List (ℕ × List ℕ)). unwrap_or (last_at l i) (content (sectors_in image) i)) empty
    ∙ sym (ap (λ (l : List Call). (state_after image l).reads i) none)

-- ==== A call that is within a device.

Fits : ℕ → Call → Type 0
Fits size (Write i bytes) = (i < size) × (length bytes ≡ 512)
Fits size Sync = Unit {0}

if_fits : (size : ℕ) (call : Call) → Fits size call → IsWithin size call
unfolding Fits
if_fits size call fits i bytes is = subst (Fits size) is fits

pub a_write : (size i : ℕ) (bytes : List ℕ) → i < size → length bytes ≡ 512 → IsWithin size (Write i bytes)
unfolding Fits
a_write size i bytes lt long = if_fits size (Write i bytes) (lt, long)

pub a_sync : (size : ℕ) → IsWithin size Sync
unfolding Fits
a_sync size = if_fits size Sync tt
