-- Queries over the batches that the root in memory has, and with which faults they are refused.
use Rattle.std.proofs.Common.{◌≡◌, ◌≢◌, ◌⊎◌, ⊎_elim, inl, inr, ◌∙◌, ℕ, ◌<◌, ◌≤◌, List, Result, Err, IfErr, IsErrOf}
use Rattle.std.proofs.Common.{length, ap, arith, subst, sym}
use Rattle.std.proofs.lemmas.List.{length-map}
use Rattle.std.proofs.lemmas.Result.{IfErr-at_err}
use Rattle.cube_model.specs.declared.fault.Fault.{Fault}
use Rattle.cube_model.specs.declared.fault.Fault.TheVariants.{BadLayout, BadQuery, Device, Memory, NoSuchPrefix}
use Rattle.cube_model.specs.declared.rows.LineOrder.{LineOrder}
use Rattle.stored_rows.proofs.CallerLemmas.{only_memory}
use Rattle.sector_device.specs.declared.device.Sectors.{Ghosts}
use Rattle.warehouse_objects.specs.Warehouse.{Warehouse}
use Rattle.warehouse_root.specs.Root.{PlainRoot}
use Rattle.warehouse.specs.Reads.{RefusesQuery}
use Rattle.warehouse.specs.Session.{AskingRefuses, IsAskable, IsAt, device_of, disk_of}
use Rattle.warehouse.specs.declared.session.Session.{Session}
use Rattle.warehouse.proofs.Cuboids.{agrees}

-- the root of a session has as many batches as its warehouse
pub counted_at : {D : Type 0} (g : Ghosts D) (w : Warehouse) (session : Session D g) → IsAt g session w
    → (disk_of g session).keeps_word → (batches : List ℕ) → batches ≡ session.root.batches
    → length batches ≡ length w.batches
counted_at g w session at k batches are =
    ap (λ (l : List ℕ). length l) are
    ∙ ap (λ (root : PlainRoot). length root.batches) (sym (agrees g w session at k).root_is)
    ∙ length-map w.batches (λ (batch : List LineOrder). length batch)

-- a query that is proper, over batches that the root has
pub asked_within : (P : Type 0) (w : Warehouse) (as_of count : ℕ) → count ≡ length w.batches → P × (as_of ≤ count)
    → IsAskable P w as_of
asked_within P w as_of count many may = record { proper = may.0; there = subst (λ (n : ℕ). as_of ≤ n) many may.1 }

-- the same refusal, where P and Q agree on what is proper
refuses_alike : (P Q : Type 0) (w : Warehouse) (as_of : ℕ) (fault : Fault) → (P → Q) → (Q → P)
    → AskingRefuses P w as_of fault → AskingRefuses Q w as_of fault
refuses_alike P Q w as_of fault to from cause =
    ⊎_elim {C = AskingRefuses Q w as_of fault} (λ improper. inl (improper.0, λ q. improper.1 (from q)))
    (⊎_elim {C = AskingRefuses Q w as_of fault} (λ beyond. inr (inl (beyond.0, to beyond.1, beyond.2)))
    (λ memory. inr (inr (memory.0, record { proper = to memory.1.proper; there = memory.1.there })))) cause

module _ {D : Type 0} (g : Ghosts D) (as_of : ℕ) where
  -- the root in memory has so many batches
  abbrev pub Counts : Session D g → ℕ → Type 0
  Counts session count = (w : Warehouse) → IsAt g session w → (disk_of g session).keeps_word
      → count ≡ length w.batches

  -- a query that its check refuses
  pub check_refuses : {A : Type 0} (P : Type 0) (old new : Session D g) (count : ℕ) → Counts old count
      → (g.keeps_word (device_of new) → g.keeps_word (device_of old)) → (fault : Fault)
      → ((fault ≡ BadQuery) × (P → ⊥)) ⊎ ((fault ≡ NoSuchPrefix) × P × (count < as_of))
      → RefusesQuery g P as_of (IsErrOf {T = A} (Err fault)) old new
  check_refuses {A} P old new count counts word fault cause = record {
    improper = λ fine no. ⊎_elim {C = IsErrOf {T = A} (Err fault) BadQuery} (λ bad. ap (λ (f : Fault). Err f) bad.0)
        (λ beyond. absurd (no beyond.1)) cause;
    beyond = λ w at k proper less. ⊎_elim {C = IsErrOf {T = A} (Err fault) NoSuchPrefix}
        (λ bad. absurd (bad.1 proper)) (λ beyond. ap (λ (f : Fault). Err f) beyond.0) cause;
    causes = λ other is apart w at k.
        let same : fault ≡ other = cc in
        subst (λ (f : Fault). AskingRefuses P w as_of f) same
        (⊎_elim {C = AskingRefuses P w as_of fault} (λ bad. inl bad)
        (λ beyond. inr (inl (beyond.0, beyond.1, subst (λ (n : ℕ). n < as_of) (counts w at (word k)) beyond.2))) cause);
  }

  -- a query that its check passes: from then on only memory can run out
  pub checked_refuses : (P : Type 0) (refuses : Fault → Type 0) (old new : Session D g) (count : ℕ)
      → Counts old count → (g.keeps_word (device_of new) → g.keeps_word (device_of old)) → P × (as_of ≤ count)
      → ((fault : Fault) → refuses fault → fault ≢ Device → (w : Warehouse) → IsAt g old w
      → g.keeps_word (device_of new) → fault ≡ Memory)
      → RefusesQuery g P as_of refuses old new
  checked_refuses P refuses old new count counts word may memory = record {
    improper = λ fine no. absurd (no may.0);
    beyond = λ w at k proper less. absurd (omega (arith, less, counts w at (word k), may.1));
    causes = λ fault is other w at k.
        inr (inr (memory fault is other w at k, asked_within P w as_of count (counts w at (word k)) may));
  }

  -- the same where the store was read, whose content is never refused
  pub read_refuses : {A : Type 0} (P : Type 0) (result : Result A Fault) (old new : Session D g) (count : ℕ)
      → Counts old count → (g.keeps_word (device_of new) → g.keeps_word (device_of old)) → P × (as_of ≤ count)
      → IfErr result (λ fault. (fault ≡ Memory) ⊎ ((fault ≡ Device) ⊎ (fault ≡ BadLayout)))
      → ((w : Warehouse) → IsAt g old w → g.keeps_word (device_of new) → IsErrOf result BadLayout → ⊥)
      → RefusesQuery g P as_of (IsErrOf result) old new
  read_refuses P result old new count counts word may causes never =
      checked_refuses P (IsErrOf result) old new count counts word may
      (λ fault is other w at k. only_memory fault
      (IfErr-at_err (λ (f : Fault). (f ≡ Memory) ⊎ ((f ≡ Device) ⊎ (f ≡ BadLayout))) is causes) other
      (λ bad. never w at k (is ∙ ap (λ (f : Fault). Err f) bad)))

  -- a call that returns the faults of another one, or that runs out of memory after it
  pub asks_alike : (P Q : Type 0) (refuses again : Fault → Type 0) (old new : Session D g) → (P → Q) → (Q → P)
      → ((fault : Fault) → refuses fault → again fault)
      → ((fault : Fault) → again fault → refuses fault ⊎ ((fault ≡ Memory) × ((w : Warehouse) → IsAt g old w
      → g.keeps_word (device_of new) → IsAskable P w as_of)))
      → RefusesQuery g P as_of refuses old new → RefusesQuery g Q as_of again old new
  asks_alike P Q refuses again old new to from more less refused = record {
    improper = λ fine no. more BadQuery (refused.improper fine (λ p. no (to p)));
    beyond = λ w at k proper few. more NoSuchPrefix (refused.beyond w at k (from proper) few);
    causes = λ fault is other w at k. refuses_alike P Q w as_of fault to from
        (⊎_elim {C = AskingRefuses P w as_of fault} (λ was. refused.causes fault was other w at k)
        (λ memory. inr (inr (memory.0, memory.1 w at k))) (less fault is));
  }
