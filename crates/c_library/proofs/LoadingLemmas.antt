-- Lemmas of `loading`, by subject.
use Rattle.std.proofs.Common.{◌≡◌, ◌⊎◌, inl, inr, refl, ⊎_elim, ℕ, ◌+◌, List, [], length, slice_get, Bool, Option, Some}
use Rattle.std.proofs.Common.{None, Ok, Err, sym, ap, subst, ◌∙◌}
use Rattle.cube_model.specs.declared.fault.Fault.{Fault}
use Rattle.cube_model.specs.declared.fault.Fault.TheVariants.{Device, Memory}
use Rattle.c_library.specs.Journals.{named_fault}
use Rattle.std.proofs.lemmas.List.{length-map}
use Rattle.std.proofs.lemmas.Option.{none-some, slice_get-map}
use Rattle.std.specs.Option.{option_map}
use Rattle.sector_device.specs.declared.device.Sectors.{Ghosts}
use Rattle.batch_loader.specs.Lines.{lines_of}
use Rattle.batch_loader.specs.Parts.{parts_of}
use Rattle.cube_model.specs.declared.rows.LineOrder.{LineOrder}
use Rattle.object_store.specs.Content.{Content}
use Rattle.object_store.specs.Disk.{Leaves, disk}
use Rattle.object_store.proofs.Moments.{leaves_then, leaves_weaker}
use Rattle.warehouse_objects.specs.Facts.{Facts}
use Rattle.warehouse_objects.specs.Warehouse.{Warehouse}
use Rattle.warehouse.specs.declared.session.Session.{Session}
use Rattle.warehouse.specs.Found.{MayBeFound, MayRepresentSince}
use Rattle.warehouse.specs.Session.{IsAt, device_of, disk_of}
use Rattle.warehouse.specs.Comparing.{numbered}
use Rattle.warehouse_jobs.specs.Cutting.{AreCutFrom, IsNextBatch, IsFirstLineFault}
use Rattle.warehouse_jobs.specs.Lawful.{LoadHoldsItsBatches}
use Rattle.c_library.specs.Loading.{BatchIsRefused, HoldsSome, LoadRefuses, LoadsOn, StopsAt}
use Rattle.c_library.proofs.Found.{same_facts}
use Rattle.warehouse_jobs.specs.Loading as jobs

-- ==== The fault that is named.

-- what holds of a fault holds of the one that is named, unless that is Memory
pub or_memory : (P : Fault → Type 0) (fault : Fault) → P fault → (named_fault fault ≡ Memory) ⊎ P (named_fault fault)
or_memory P Device has = inl refl
or_memory P fault has = inr has

-- ==== What a load on a device does, by the contracts of an opening and of a load.

module _ {D : Type 0} (g : Ghosts D) (facts : Facts) (w : Warehouse) (first size : ℕ) (text : List ℕ) (device : D)
    (opened done : Session D g)
    (found : MayBeFound facts None w) (before after : Option (List ℕ)) where
  -- until it is open there are no batches of the text
  none_yet : (c : Content) → MayRepresentSince (disk g device) facts None c → HoldsSome w first size text c
  none_yet c since = record {
    some = [];
    next = 1;
    left = parts_of size (lines_of text);
    cut = (refl, refl);
    represents = (since.0, inl (same_facts facts since.0 since.1 ∙ sym (same_facts facts w found)), since.3);
  }

  then_some : (c : Content) → jobs.LoadMayLeave w first size (Some text) 0 c → HoldsSome w first size text c
  then_some c may = record {
    some = may.some;
    next = may.next;
    left = may.left;
    cut = may.cut;
    represents = (jobs.with_batches w first may.some, inl refl, may.represents);
  }

  leaves : Leaves (disk g device) (disk_of g opened) (MayRepresentSince (disk g device) facts None)
      → Leaves (disk_of g opened) (disk_of g done) (jobs.LoadMayLeave w first size (Some text) 0)
      → Leaves (disk g device) (disk_of g done) (HoldsSome w first size text)
  leaves opening load = leaves_then (HoldsSome w first size text) (disk g device) (disk_of g opened) (disk_of g done)
      (leaves_weaker _ (HoldsSome w first size text) (disk g device) (disk_of g opened) (λ k. none_yet) opening)
      (leaves_weaker _ (HoldsSome w first size text) (disk_of g opened) (disk_of g done) (λ k. then_some) load)

  -- the batches are those of their numbers then
  held : {yes : Bool} → LoadHoldsItsBatches Bool g
      → (load : jobs.Loads {A = Bool} g w first size (Some text) opened done before after (Ok yes))
      → (place : ℕ) (rows : List LineOrder)
      → slice_get (jobs.batches_of load.trace) place ≡ Some rows
      → numbered (jobs.with_batches w first (jobs.batches_of load.trace)).batches (first + place) ≡ Some rows
  held {yes} law load place rows is = one_of (slice_get load.trace place) refl
    where
      one_of : (o : Option (jobs.Done g)) → slice_get load.trace place ≡ o
          → numbered (jobs.with_batches w first (jobs.batches_of load.trace)).batches (first + place) ≡ Some rows
      one_of None none =
          absurd (none-some rows
          (sym (slice_get-map (λ (one : jobs.Done g). one.rows) load.trace place
          ∙ ap (option_map (λ (one : jobs.Done g). one.rows)) none) ∙ is))
      one_of (Some one) some =
          law w first size (Some text) opened done before after (Ok yes) load place one some
          ∙ sym (slice_get-map (λ (one : jobs.Done g). one.rows) load.trace place
          ∙ ap (option_map (λ (one : jobs.Done g). one.rows)) some) ∙ is

  pub loads_on : {yes : Bool} → LoadHoldsItsBatches Bool g
      → Leaves (disk g device) (disk_of g opened) (MayRepresentSince (disk g device) facts None)
      → jobs.Loads {A = Bool} g w first size (Some text) opened done before after (Ok yes)
      → LoadsOn g facts first size text device (device_of done)
  loads_on {yes} law opening load =
      let same : jobs.session_after opened load.trace ≡ done = sym load.ends.same in
      let at : IsAt g done (jobs.with_batches w first (jobs.batches_of load.trace)) =
      subst (λ (s : Session D g). IsAt g s (jobs.with_batches w first (jobs.batches_of load.trace))) same load.at in
      record {
        all = record {
          w = w;
          of = same_facts facts w found;
          batches = jobs.batches_of load.trace;
          next = load.next;
          cut = subst
              (λ (l : List (List (List ℕ))). AreCutFrom (Some text) size (jobs.batches_of load.trace) load.next l)
              load.ends.none load.cut;
          holds = held law load;
        };
        represents = at.all;
        leaves = leaves opening load.leaves;
      }

  -- why the store refuses the commit of a batch
  batch_refuses : (session : Session D g) (v : Warehouse) (number : ℕ) (rows : List LineOrder) (fault : Fault)
      → jobs.BatchRefuses g session v number rows fault
      → (fault ≡ Memory) ⊎ BatchIsRefused v number rows fault
  batch_refuses session v number rows fault why = ⊎_elim (λ other. inr (inl other))
      (λ unknown. ⊎_elim (λ memory. inl memory.0)
      (λ more. ⊎_elim (λ refused. inr (inr (more.0, inl refused)))
      (⊎_elim (λ memory. inl memory.0)
      (λ full. ⊎_elim (λ memory. inl memory)
      (λ room. inr (inr (more.0, inr (full.0, ⊎_elim (λ worn. inr worn.0) (λ none. inl none.0) room)))) full.1))
      more.1)
      unknown)
      why

  -- the parts of the text that were not read
  stops : (load_batches : List (List LineOrder)) (next : ℕ) (left : List (List (List ℕ))) (fault : Fault)
      → AreCutFrom (Some text) size load_batches next left
      → (IsFirstLineFault next left fault
      ⊎ ((rows : List LineOrder) × IsNextBatch next left rows
      × BatchIsRefused (jobs.with_batches w first load_batches) (first + length load_batches) rows fault))
      → LoadRefuses facts first size text (named_fault fault)
  stops load_batches next left fault cut why = ⊎_elim (λ memory. inl memory) (λ stop. inr (inr (inr stop)))
      (or_memory (StopsAt facts first size text) fault
      (record {
        w = w;
        of = same_facts facts w found;
        batches = load_batches;
        next = next;
        left = left;
        cut = cut;
        why = why;
      }))

  pub refuses : {fault : Fault} → jobs.Loads {A = Bool} g w first size (Some text) opened done before after (Err fault)
      → LoadRefuses facts first size text (named_fault fault)
  refuses {fault} load =
      let batches : List (List LineOrder) = jobs.batches_of load.trace in
      let many : length load.trace ≡ length batches = sym (length-map load.trace (λ (one : jobs.Done g). one.rows)) in
      ⊎_elim
      (λ unread. ⊎_elim (λ memory. inl (ap named_fault memory))
      (λ other. ⊎_elim (λ input. inr (inl (ap named_fault input)))
      (λ bad. stops batches load.next load.left fault load.cut (inl bad)) other) unread.cause)
      (λ later. ⊎_elim
      (λ in_batch. ⊎_elim
      (λ refused. ⊎_elim (λ failed. inl (ap named_fault failed.0))
      (λ why. ⊎_elim (λ memory. inl (ap named_fault memory))
      (λ batch. stops batches load.next load.left fault load.cut
      (inr (
        in_batch.rows,
        in_batch.read,
        subst (λ (n : ℕ). BatchIsRefused (jobs.with_batches w first batches) (first + n) in_batch.rows fault) many
            batch,
      )))
      (batch_refuses (jobs.session_after opened load.trace) (jobs.with_batches w first batches)
      (first + length load.trace) in_batch.rows fault why.0))
      refused.0.cause)
      (λ output. inr (inr (inl (ap named_fault output.0))))
      in_batch.ends)
      (λ unclosed. inr (inr (inl (ap named_fault unclosed.failed))))
      later)
      load.ends

-- an opening is refused
pub not_opened : (facts : Facts) (first size : ℕ) (text : List ℕ) (fault : Fault) → (fault ≡ Memory) ⊎ (fault ≡ Device)
    → LoadRefuses facts first size text (named_fault fault)
not_opened facts first size text fault why =
    ⊎_elim (λ memory. inl (ap named_fault memory)) (λ device. inl (ap named_fault device)) why
