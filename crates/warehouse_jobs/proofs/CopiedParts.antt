-- A warehouse that has the first batches of another one.
use Rattle.std.proofs.Common.{◌≡◌, ◌⊎◌, ⊎_elim, ◌∙◌, ℕ, ◌+◌, ◌<◌, List, length, Option, Some, None}
use Rattle.std.proofs.Common.{slice_get, take, refl, sym, ap, subst, add-one, arith}
use Rattle.std.proofs.lemmas.List.{length-take-le}
use Rattle.std.proofs.lemmas.Option.{slice_get_within}
use Rattle.sector_device.specs.declared.device.Sectors.{Ghosts}
use Rattle.cube_model.specs.declared.fault.Fault.{Fault}
use Rattle.cube_model.specs.declared.fault.Fault.TheVariants.{Device, Memory}
use Rattle.cube_model.specs.declared.rows.LineOrder.{LineOrder}
use Rattle.object_store.specs.Content.{Content}
use Rattle.object_store.specs.Disk.{Disk, Leaves}
use Rattle.object_store.proofs.Moments.{leaves_weaker}
use Rattle.warehouse_objects.specs.Facts.{AdmitsBatch, refusal_in, refusal_of}
use Rattle.warehouse_objects.specs.Represents.{Represents}
use Rattle.warehouse_objects.specs.Warehouse.{Warehouse, fresh_in, loaded}
use Rattle.warehouse_objects.proofs.Batches.{get_within, take_next}
use Rattle.warehouse_objects.proofs.CallerLemmas.{admitted_in_order}
use Rattle.warehouse.specs.declared.session.Session.{Session}
use Rattle.warehouse.specs.Comparing.{numbered}
use Rattle.warehouse.specs.Session.{SubmitRefuses}
use Rattle.warehouse_jobs.specs.Copied.{HoldsPart, IsCopyFault, IsPart, with_first}
use Rattle.warehouse_jobs.proofs.CopyCauses.{is_fault, of_commit, or_device}

module _ (w : Warehouse) where
  pub part_first : (count : ℕ) → IsPart w (with_first w count)
  part_first count = record { rows = refl; count = count; batches = refl }

  pub holds_first : (count : ℕ) (c : Content) → Represents c (with_first w count) → HoldsPart w c
  holds_first count c represents = (with_first w count, part_first count, represents)

  pub leaves_part : (count : ℕ) (old new : Disk) → Leaves old new (λ c. Represents c (with_first w count))
      → Leaves old new (HoldsPart w)
  leaves_part count old new leaves = leaves_weaker (λ (c : Content). Represents c (with_first w count)) (HoldsPart w)
      old new (λ k c represents. holds_first count c represents) leaves

  -- with the next batch
  pub next_first : (before : ℕ) (rows : List LineOrder) → slice_get w.batches before ≡ Some rows
      → loaded (with_first w before) rows ≡ with_first w (before + 1)
  next_first before rows here =
      ap (λ (batches : List (List LineOrder)). record (fresh_in w.layout w.rows) { batches = batches })
      (sym (ap (λ (n : ℕ). take n w.batches) (add-one before) ∙ take_next w.batches before rows here))

  pub all_first : (count : ℕ) → count ≡ length w.batches → with_first w count ≡ with_first w (length w.batches)
  all_first count many = ap (with_first w) many

  -- the batch of a number is there
  pub numbered_here : (before : ℕ) (found : Option (List LineOrder)) (rows : List LineOrder) → found ≡ Some rows
      → found ≡ numbered w.batches (before + 1) → slice_get w.batches before ≡ Some rows
  numbered_here before found rows is same = sym (same ∙ ap (numbered w.batches) (add-one before)) ∙ is

  pub never_missing : (before : ℕ) (found : Option (List LineOrder)) → found ≡ None
      → found ≡ numbered w.batches (before + 1) → before < length w.batches → ⊥
  never_missing before found is same lt =
      let got = get_within w.batches before lt in
      let both : None ≡ Some got.0 = sym is ∙ same ∙ ap (numbered w.batches) (add-one before) ∙ got.1 in cc

  -- a submit of the next batch leaves first batches
  module _ (before : ℕ) (rows : List LineOrder) (here : slice_get w.batches before ≡ Some rows) where
    pub submit_leaves : (old new : Disk)
        → Leaves old new (λ c. Represents c (with_first w before)
        ⊎ (AdmitsBatch (with_first w before) (before + 1) rows × Represents c (loaded (with_first w before) rows)))
        → Leaves old new (HoldsPart w)
    submit_leaves old new leaves =
        leaves_weaker (λ (c : Content). Represents c (with_first w before)
        ⊎ (AdmitsBatch (with_first w before) (before + 1) rows × Represents c (loaded (with_first w before) rows)))
        (HoldsPart w) old new
        (λ k c one. ⊎_elim (λ represents. holds_first before c represents)
        (λ both. holds_first (before + 1) c
        (subst (λ (v : Warehouse). Represents c v) (next_first before rows here) both.1)) one) leaves

    -- and it is refused for no cause of the model
    pub never_refused : (c : Content) → Represents c w → (fault : Fault)
        → refusal_of (with_first w before) (before + 1) rows ≡ Some fault → ⊥
    never_refused c represents fault is =
        let lt : before < length w.batches = slice_get_within w.batches before rows here in
        let many : length (take before w.batches) ≡ before = length-take-le before w.batches (omega (arith, lt)) in
        let admits : refusal_in w.layout w.rows (take before w.batches) (before + 1) rows ≡ None =
        subst (λ (n : ℕ). refusal_in w.layout w.rows (take before w.batches) (n + 1) rows ≡ None) many
        (admitted_in_order w.layout w.rows w.batches represents.batches represents.modes before rows here) in
        let both : None ≡ Some fault = sym admits ∙ is in cc

    pub submit_fault : {E : Type 0} (g : Ghosts E) (session : Session E g) (c : Content) → Represents c w
        → (fault : Fault)
        → ((fault ≡ Device → ⊥) → SubmitRefuses g session (with_first w before) (before + 1) rows fault)
        → IsCopyFault fault
    submit_fault g session c represents fault why =
        or_device fault
        (λ no. ⊎_elim (λ refused. absurd (never_refused c represents fault refused))
        (⊎_elim (λ memory. is_fault fault Memory tt memory.0) (λ commit. of_commit fault commit.1)) (why no))
