-- An opening that brings the cuboids to the target.
use Rattle.std.proofs.Common.{◌≡◌, ◌≢◌, ◌⊎◌, ⊎_elim, inl, inr, Option, Some, Result, Ok, Err, IfOk, IfErr, IsOk}
use Rattle.std.proofs.Common.{IsErrOf, All, refl, sym, ◌∙◌, subst}
use Rattle.sector_device.specs.declared.device.Sectors.{Ghosts}
use Rattle.cube_model.specs.declared.fault.Fault.{Fault}
use Rattle.cube_model.specs.declared.fault.Fault.TheVariants.{BadLayout, Device, Full, Memory, Worn}
use Rattle.lattice.specs.declared.view.View.{View}
use Rattle.object_store.specs.Content.{Content}
use Rattle.object_store.specs.Disk.{Disk, Leaves}
use Rattle.object_store.proofs.Moments.{leaves_then, leaves_weaker}
use Rattle.object_store.specs.declared.store.Store.{Store}
use Rattle.object_store.specs.Store as stores
use Rattle.warehouse_root.specs.Root.{PlainRoot}
use Rattle.warehouse_objects.specs.Represents.{Represents}
use Rattle.warehouse_objects.specs.Facts.{AddsChange, Change, Facts}
use Rattle.warehouse_objects.specs.Warehouse.{Warehouse}
use Rattle.stored_cuboids.specs.Keeping.{IsCaughtUp, IsDone, IsReachedOrLarge, StoreAt}
use Rattle.stored_cuboids.specs.Nexts.{EndsBringing, RefusesLeast}
use Rattle.stored_cuboids.proofs.CallerLemmas.{done_or_large, kept_then, leaves_if}
use Rattle.warehouse.specs.declared.session.Session.{Session}
use Rattle.warehouse.specs.Found.{IsSince, MayBeFound, MayRepresentSince}
use Rattle.warehouse.specs.Session.{IsAt, disk_of}

-- the error of a result
pub of_err : {X : Type 0} (caught : Result X Fault) (P : Fault → Type 0) (fault : Fault) → IsErrOf caught fault
    → IfErr caught P → P fault
of_err caught P fault is known = subst (λ r. IfErr r P) is known

of_ok : {X : Type 0} (caught : Result X Fault) (P : X → Type 0) → IsOk caught → IfOk caught P → (x : X) × P x
of_ok (Ok x) P is known = (x, known)
of_ok (Err fault) P is known = absurd cc

-- ---- what ended it

-- no room, and the last generation, are not passed on
pub passed_on : (fault : Fault) → (fault ≢ Full) → (fault ≢ Worn) → EndsBringing fault → (fault ≡ Memory)
    ⊎ ((fault ≡ Device) ⊎ (fault ≡ BadLayout))
passed_on fault full worn =
    ⊎_elim {C = (fault ≡ Memory) ⊎ ((fault ≡ Device) ⊎ (fault ≡ BadLayout))} (λ memory. inl memory)
    (⊎_elim {C = (fault ≡ Memory) ⊎ ((fault ≡ Device) ⊎ (fault ≡ BadLayout))} (λ device. inr (inl device))
    (⊎_elim {C = (fault ≡ Memory) ⊎ ((fault ≡ Device) ⊎ (fault ≡ BadLayout))} (λ bad. inr (inr bad))
    (⊎_elim {C = (fault ≡ Memory) ⊎ ((fault ≡ Device) ⊎ (fault ≡ BadLayout))} (λ is. absurd (full is))
    (λ is. absurd (worn is)))))

module _ {D : Type 0} (g : Ghosts D) (store : Store D g) (root : PlainRoot) (w : Warehouse) where
  abbrev Known : Type 0
  Known = (stores.disk_of g store).keeps_word

  -- the store is finished
  abbrev pub IsFinishedAt : Warehouse → Type 0
  IsFinishedAt v = All (IsReachedOrLarge v) v.cuboids
      ⊎ ((fault : Fault) × ((fault ≡ Full) ⊎ (fault ≡ Worn)) × RefusesLeast g store v fault)

  abbrev Caught : (Warehouse → Type 0) → Type 0
  Caught P = (v : Warehouse) × IsCaughtUp w v × StoreAt g store root v × (Known → P v)

  by_refusal : (caught : Result (Option View) Fault) (fault : Fault) → (fault ≡ Full) ⊎ (fault ≡ Worn) → fault ≢ Device
      → fault ≢ Memory → IsErrOf caught fault
      → IfErr caught (λ f. f ≢ Device → f ≢ Memory → Caught (λ v. RefusesLeast g store v f)) → Caught IsFinishedAt
  by_refusal caught fault why device memory is refused =
      let now = of_err caught (λ f. f ≢ Device → f ≢ Memory → Caught (λ v. RefusesLeast g store v f)) fault is refused
      device memory in
      (now.0, now.1, now.2, λ k. inr (fault, why, now.3 k))

  pub finished_at : (caught : Result (Option View) Fault) → IsOk caught ⊎ (IsErrOf caught Full ⊎ IsErrOf caught Worn)
      → IfOk caught (λ passed. Caught (λ v. IsDone v passed))
      → IfErr caught (λ f. f ≢ Device → f ≢ Memory → Caught (λ v. RefusesLeast g store v f)) → Caught IsFinishedAt
  finished_at caught how done refused =
      ⊎_elim {C = Caught IsFinishedAt}
      (λ ok. let one = of_ok caught (λ passed. Caught (λ v. IsDone v passed)) ok done in
      (one.1.0, one.1.1, one.1.2, λ k. inl (done_or_large one.1.0 one.0 (one.1.3 k))))
      (⊎_elim {C = Caught IsFinishedAt}
      (λ full. by_refusal caught Full (inl refl) (λ e. cc) (λ e. cc) full refused)
      (λ worn. by_refusal caught Worn (inr refl) (λ e. cc) (λ e. cc) worn refused)) how

-- ---- what it leaves

module _ (start : Disk) (facts : Facts) (last : Option Change) where
  -- cuboids that are brought on leave the batches
  pub found_caught : (w v : Warehouse) → IsCaughtUp w v → MayBeFound facts last w → MayBeFound facts last v
  found_caught w v caught may =
      subst (λ (found : Facts). (found ≡ facts)
      ⊎ ((change : Change) × (last ≡ Some change) × AddsChange facts change found))
      (sym caught.kept.facts) may

  pub since_caught : (w v : Warehouse) → IsCaughtUp w v → IsSince start w → IsSince start v
  since_caught w v caught since = record {
    content = since.content;
    shown = since.shown;
    first = since.first;
    represents = since.represents;
    kept = kept_then since.first w v since.kept caught.kept;
    target = caught.target ∙ since.target;
  }

  -- an opening, and then the cuboids
  pub finish_leaves : {D : Type 0} (g : Ghosts D) (session : Session D g) (now : Disk)
      → ((disk_of g session).keeps_word → (w : Warehouse) × MayBeFound facts last w × IsSince start w
      × IsAt g session w)
      → Leaves start (disk_of g session) (MayRepresentSince start facts last)
      → (now.keeps_word → (disk_of g session).keeps_word)
      → ((w : Warehouse) → IsAt g session w
      → Leaves (disk_of g session) now (λ c. (v : Warehouse) × IsCaughtUp w v × Represents c v))
      → Leaves start now (MayRepresentSince start facts last)
  finish_leaves g session now found before word caught =
      leaves_then (MayRepresentSince start facts last) start (disk_of g session) now before
      (leaves_if (MayRepresentSince start facts last) (disk_of g session) now word (λ k.
      let at = found k in
      leaves_weaker (λ (c : Content). (v : Warehouse) × IsCaughtUp at.0 v × Represents c v)
      (MayRepresentSince start facts last) (disk_of g session) now
      (λ j c there. (there.0, found_caught at.0 there.0 there.1 at.1, since_caught at.0 there.0 there.1 at.2, there.2))
      (caught at.0 at.3)))
