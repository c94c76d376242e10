-- What a write and a sync do to a memory disk.
use Rattle.std.proofs.Common.{◌≡◌, ◌≢◌, ◌⊎◌, ⊎_elim, inl, inr, ℕ, suc, ◌-◌, ◌<◌, ◌≤◌, Bool, if◌then◌else◌, List, []}
use Rattle.std.proofs.Common.{zero, ◌∷◌, length, drop, reverse, get_or, Contains, Result, Ok, Err, OnOk, OnErr, refl}
use Rattle.std.proofs.Common.{sym, ◌∙◌, ap}
use Rattle.std.proofs.Common.{subst, arith}
use Rattle.std.proofs.Math.ListN.{set}
use Rattle.std.proofs.lemmas.List.{length-set, get_or-set_same, get_or-set_other, set-set, set-get_or, get_or_read}
use Rattle.std.proofs.lemmas.List.{reverse-append}
use Rattle.std.proofs.lemmas.Bool.{cases_eq}
use Rattle.std.proofs.lemmas.Bool.Decides.{eqb_tells}
use Rattle.sector_device.specs.Device.{Elapses, WritesSector, Syncs}
use Rattle.sector_device.specs.Device.{Image}
use Rattle.sector_device.specs.Memory.{content, replaced, candidates, MayHold, LeftWithin, before, before_last}
use Rattle.sector_device.specs.Memory.{AreWhole, memory_state}
use Rattle.sector_device.proofs.MemoryLaws.{read_may_stay}
use Rattle.sector_device.specs.declared.change.Change.{Change}
use Rattle.sector_device.specs.declared.change.Change.TheVariants.{Replaced, Synced}
use Rattle.sector_device.specs.declared.memory.MemDisk.{MemDisk}
use Rattle.sector_device.specs.MemDisk.{oldest_first, AddsCandidate}
use Rattle.sector_device.proofs.Lists.{only, later, which}

module _ (old new : List (List ℕ)) (log : List Change) (change : Change) (is : before change new ≡ old) where
  -- an image of so many moments ago is one of before a change, or of now
  of_a_moment : (n : ℕ) (image : Image) (ago : ℕ) → ago ≤ suc n
      → ((i : ℕ) → MayHold (before_last ago new (change ∷ log)) (drop ago (change ∷ log)) i (image i))
      → LeftWithin n old log image ⊎ ((i : ℕ) → MayHold new (change ∷ log) i (image i))
  of_a_moment n image zero le may = inr may
  of_a_moment n image (suc ago) le may = inl (record {
    ago = ago;
    within = omega (arith, le);
    may = λ i. subst (λ (s : List (List ℕ)). MayHold (before_last ago s log) (drop ago log) i (image i)) is (may i);
  })

  -- one change more
  pub passes : Elapses (memory_state old log) (memory_state new (change ∷ log))
  passes = record {
    later = omega arith;
    nothing_else = λ t image le left. of_a_moment (length log - t) image left.ago (omega (arith, left.within, le))
        left.may;
    keeps = λ t image le left. record {
      ago = suc left.ago;
      within = omega (arith, left.within, le);
      may = λ i. subst (λ (s : List (List ℕ)). MayHold (before_last left.ago s log) (drop left.ago log) i (image i))
          (sym is) (left.may i);
    };
  }

pub replaced-here : (log : List Change) (at i : ℕ) (old : List ℕ) → i ≡ at → replaced (Replaced at old ∷ log) i ≡ old
    ∷ replaced log i
replaced-here log at i old is = ⊎_elim
    (λ yes. ap (λ (t : Bool). if t then old ∷ replaced log i else replaced log i) yes.0)
    (λ no. absurd (no.1 is)) (eqb_tells i at)

pub replaced-there : (log : List Change) (at i : ℕ) (old : List ℕ) → i ≢ at
    → replaced (Replaced at old ∷ log) i ≡ replaced log i
replaced-there log at i old ne = ⊎_elim
    (λ yes. absurd (ne yes.1))
    (λ no. ap (λ (t : Bool). if t then old ∷ replaced log i else replaced log i) no.0) (eqb_tells i at)

module _ (sectors : List (List ℕ)) (log : List Change) (at : ℕ) (bytes : List ℕ) (lt : at < length sectors) where
  elsewhere : (i : ℕ) → i ≢ at → content (set sectors at bytes) i ≡ content sectors i
  elsewhere i ne = get_or-set_other sectors at i bytes [] ne

  here : content (set sectors at bytes) at ≡ bytes
  here = get_or-set_same sectors at bytes [] lt

  -- the sector that is written has one candidate more
  after-here : (i : ℕ) → i ≡ at → candidates (set sectors at bytes) (Replaced at (content sectors at) ∷ log) i ≡ bytes
      ∷ candidates sectors log i
  after-here i is =
      ap (λ (b : List ℕ). b ∷ replaced (Replaced at (content sectors at) ∷ log) i)
      (ap (content (set sectors at bytes)) is ∙ here)
      ∙ ap (λ (l : List (List ℕ)). bytes ∷ l) (replaced-here log at i (content sectors at) is
      ∙ ap (λ (b : List ℕ). b ∷ replaced log i) (ap (content sectors) (sym is)))

  -- and the others have the same
  after-there : (i : ℕ) → i ≢ at → candidates (set sectors at bytes) (Replaced at (content sectors at) ∷ log) i
      ≡ candidates sectors log i
  after-there i ne =
      ap (λ (b : List ℕ). b ∷ replaced (Replaced at (content sectors at) ∷ log) i) (elsewhere i ne)
      ∙ ap (λ (l : List (List ℕ)). content sectors i ∷ l) (replaced-there log at i (content sectors at) ne)

  more : (i : ℕ) (b : List ℕ) → (i ≡ at) ⊎ (i ≡ at → ⊥)
      → MayHold (set sectors at bytes) (Replaced at (content sectors at) ∷ log) i b → MayHold sectors log i b
      ⊎ ((i ≡ at) × (b ≡ bytes))
  more i b (inl is) may = ⊎_elim (λ put. inr (is, put)) (λ was. inl was)
      (which bytes (candidates sectors log i) b (subst (λ (l : List (List ℕ)). Contains l b) (after-here i is) may))
  more i b (inr ne) may = inl (subst (λ (l : List (List ℕ)). Contains l b) (after-there i ne) may)

  fewer : (i : ℕ) (b : List ℕ) → (i ≡ at) ⊎ (i ≡ at → ⊥) → MayHold sectors log i b
      → MayHold (set sectors at bytes) (Replaced at (content sectors at) ∷ log) i b
  fewer i b (inl is) may =
      subst (λ (l : List (List ℕ)). Contains l b) (sym (after-here i is)) (later bytes (candidates sectors log i) b may)
  fewer i b (inr ne) may = subst (λ (l : List (List ℕ)). Contains l b) (sym (after-there i ne)) may

  pub writes : WritesSector at bytes (memory_state sectors log)
      (memory_state (set sectors at bytes) (Replaced at (content sectors at) ∷ log))
  writes = record {
    others = elsewhere;
    no_more = λ i b. more i b (cases_eq i at);
    no_fewer = λ i b. fewer i b (cases_eq i at);
    time = passes sectors (set sectors at bytes) log (Replaced at (content sectors at))
        (set-set sectors at bytes (content sectors at) ∙ set-get_or sectors at []);
  }

  pub stay_whole : length bytes ≡ 512 → AreWhole sectors log
      → AreWhole (set sectors at bytes) (Replaced at (content sectors at) ∷ log)
  stay_whole whole all i b below may = ⊎_elim
      (λ was. all i b (omega (arith, below, length-set sectors at bytes)) was)
      (λ put. ap length put.1 ∙ whole)
      (more i b (cases_eq i at) may)

pub syncs : (sectors : List (List ℕ)) (log : List Change)
    → Syncs (memory_state sectors log) (memory_state sectors (Synced ∷ log))
syncs sectors log = record {
  reads = λ i. refl;
  no_more = λ i b may. subst (MayHold sectors log i) (sym (only (content sectors i) b may))
      (read_may_stay sectors log i);
  time = passes sectors sectors log Synced refl;
}

-- the one candidate of each sector of a log with no write since its last sync
settled_whole : (sectors : List (List ℕ)) (log : List Change) → AreWhole sectors log → (i : ℕ) (b : List ℕ)
    → i < length sectors → Contains (content sectors i ∷ []) b → length b ≡ 512
settled_whole sectors log all i b below may =
    all i b below (subst (MayHold sectors log i) (sym (only (content sectors i) b may)) (read_may_stay sectors log i))

pub any_default : (xs : List (List ℕ)) (i : ℕ) (x : List ℕ) → i < length xs → x ≡ get_or xs i x → x ≡ content xs i
any_default xs i x lt is = get_or_read xs i x lt is []

-- a write that was noted
pub adds : (old new : MemDisk) (at : ℕ) (bytes : List ℕ) → at < length old.sectors.items
    → new.sectors.items ≡ set old.sectors.items at bytes
    → reverse new.log.items ≡ Replaced at (content old.sectors.items at) ∷ reverse old.log.items
    → AddsCandidate at bytes old new
adds old new at bytes lt sectors log =
    let before_it = reverse old.log.items in
    let is : (i : ℕ)
    → oldest_first new i
    ≡ reverse (candidates (set old.sectors.items at bytes) (Replaced at (content old.sectors.items at) ∷ before_it)
    i) = λ i.
    ap (λ (s : List (List ℕ)). reverse (candidates s (reverse new.log.items) i)) sectors
    ∙ ap (λ (l : List Change). reverse (candidates (set old.sectors.items at bytes) l i)) log in record {
      here = is at ∙ ap reverse (after-here old.sectors.items before_it at bytes lt at refl)
          ∙ reverse-append (bytes ∷ []) (candidates old.sectors.items before_it at);
      others = λ i ne. is i ∙ ap reverse (after-there old.sectors.items before_it at bytes lt i ne);
    }

-- a sync that was noted or not
pub whole_or_not : {T E : Type 0} (r : Result T E) (sectors : List (List ℕ)) (log after : List Change)
    → OnOk r (reverse after ≡ Synced ∷ reverse log) → OnErr r (after ≡ log) → AreWhole sectors (reverse log)
    → AreWhole sectors (reverse after)
whole_or_not (Ok x) sectors log after ok err all =
    subst (λ (l : List Change). AreWhole sectors l) (sym ok) (settled_whole sectors (reverse log) all)
whole_or_not (Err e) sectors log after ok err all =
    subst (λ (l : List Change). AreWhole sectors (reverse l)) (sym err) all
