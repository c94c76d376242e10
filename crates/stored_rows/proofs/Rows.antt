-- The rows of a batch, by what its root and its object say.
use Rattle.std.proofs.Common.{◌≡◌, ◌⊎◌, ⊎_elim, ◌∙◌, ℕ, ◌+◌, ◌<◌, List, length, Option, Some, None, slice_get, get_or}
use Rattle.std.proofs.Common.{refl}
use Rattle.std.proofs.Common.{sym, ap, subst, arith}
use Rattle.std.specs.Option.{option_map}
use Rattle.std.proofs.lemmas.Option.{slice_get-get_or, slice_get-map}
use Rattle.cube_model.specs.declared.fault.Fault.{Fault}
use Rattle.cube_model.specs.declared.fault.Fault.TheVariants.{BadLayout, Device, Memory}
use Rattle.cube_model.specs.declared.rows.LineOrder.{LineOrder}
use Rattle.cube_model.specs.ShipModes.{modes_in}
use Rattle.object_store.specs.Content.{Content, bytes_of}
use Rattle.column_segment.specs.Projected.{HoldsNoneOf}
use Rattle.column_segment.specs.Segment.{IsSegment, segment_of}
use Rattle.warehouse_root.specs.Root.{IsProperRoot, PlainRoot}
use Rattle.warehouse_objects.specs.Represents.{Represents, root_of}
use Rattle.warehouse_objects.specs.Warehouse.{Warehouse}
use Rattle.warehouse_objects.proofs.Batches.{segment_at, some_one}
use Rattle.warehouse_objects.proofs.Folded.{batch_bytes, found_at, none_there}
use Rattle.stored_rows.specs.Stored.{HoldsBatch, HoldsModes}

-- what a root says of the batch after so many others
module _ (w : Warehouse) (root : PlainRoot) (rooted : root ≡ root_of w) (before : ℕ) where
  said : slice_get root.batches before ≡ option_map length (slice_get w.batches before)
  said = ap (λ (r : PlainRoot). slice_get r.batches before) rooted ∙ slice_get-map length w.batches before

  -- nothing, where there is no such batch
  pub none_said : slice_get root.batches before ≡ None → None ≡ slice_get w.batches before
  none_said none = by (slice_get w.batches before) refl
    where
      by : (o : Option (List LineOrder)) → slice_get w.batches before ≡ o → None ≡ slice_get w.batches before
      by None e = sym e
      by (Some batch) e = let both : None ≡ Some (length batch) = sym none ∙ said ∙ ap (option_map length) e in
          absurd cc

  -- how many rows, where there is one
  pub count_said : (count : ℕ) → slice_get root.batches before ≡ Some count → (batch : List LineOrder)
      × (slice_get w.batches before ≡ Some batch) × (length batch ≡ count)
  count_said count is = by (slice_get w.batches before) refl
    where
      by : (o : Option (List LineOrder)) → slice_get w.batches before ≡ o → (batch : List LineOrder)
          × (slice_get w.batches before ≡ Some batch) × (length batch ≡ count)
      by None e = let both : Some count ≡ None = sym is ∙ said ∙ ap (option_map length) e in absurd cc
      by (Some batch) e = (batch, e, some_one (length batch) count (sym (ap (option_map length) e) ∙ sym said ∙ is))

module _ (c : Content) (w : Warehouse) (represents : Represents c w) (before : ℕ) (low : before < 65535) where
  -- the rows of its object are those of the batch
  pub rows_are : (rows : List LineOrder) → HoldsBatch c (65536 + (before + 1)) (before + 1) rows
      → Some rows ≡ slice_get w.batches before
  rows_are rows held =
      sym (found_at c w represents before (before + 1) (65536 + (before + 1)) refl refl low held.bytes rows held.there
      held.segment)

  -- the object of a batch is that batch
  pub segment_there : (batch : List LineOrder) → slice_get w.batches before ≡ Some batch → (bytes : List ℕ)
      → bytes_of c (65536 + (before + 1)) ≡ Some bytes → IsSegment bytes (before + 1) batch
  segment_there batch here bytes at =
      let same : 65536 + (before + 1) ≡ 65537 + before = omega arith in
      let own = segment_at w.rows w.batches represents.batches before batch here in record {
        spelled = some_one bytes (segment_of (before + 1) batch)
            (sym at ∙ ap (λ (n : ℕ). bytes_of c n) same ∙ batch_bytes c w represents before batch low here);
        number_fits = own.number_fits;
        batch = own.batch;
        fits = own.fits;
      }

  -- the object of a batch is not that of none
  pub never_none : (root : PlainRoot) → root ≡ root_of w → (count : ℕ) → slice_get root.batches before ≡ Some count
      → HoldsNoneOf (bytes_of c (65536 + (before + 1))) (before + 1) count → ⊥
  never_none root rooted count is none =
      let got = count_said w root rooted before count is in
      none_there c w represents before (before + 1) (65536 + (before + 1)) refl refl low got.0 got.1
      (subst (HoldsNoneOf (bytes_of c (65536 + (before + 1))) (before + 1)) (sym got.2) none)

-- the batch after so many others, where a root has one
module _ (c : Content) (w : Warehouse) (represents : Represents c w) (root : PlainRoot) (rooted : root ≡ root_of w)
    (proper : IsProperRoot root) (before : ℕ) (within : before < length root.batches) where
  low : before < 65535
  low = omega (arith, within, proper.most_batches)

  pub never_said : (counts : List ℕ) → counts ≡ root.batches
      → HoldsNoneOf (bytes_of c (65536 + (before + 1))) (before + 1) (get_or counts before 0) → ⊥
  never_said counts same none =
      never_none c w represents before low root rooted (get_or root.batches before 0)
      (slice_get-get_or root.batches before 0 within)
      (subst (λ (l : List ℕ). HoldsNoneOf (bytes_of c (65536 + (before + 1))) (before + 1) (get_or l before 0)) same
      none)

  -- the ship modes of its object are those of the batch
  pub said_modes : (modes : List (List ℕ)) → HoldsModes c (65536 + (before + 1)) (before + 1) modes
      → (batch : List LineOrder) × (slice_get w.batches before ≡ Some batch) × (modes ≡ modes_in batch)
  said_modes modes held =
      let got = count_said w root rooted before (get_or root.batches before 0)
      (slice_get-get_or root.batches before 0 within) in
      let segment = segment_there c w represents before low got.0 got.1 held.bytes held.there in
      (got.0, got.1, (held.own (before + 1) got.0 segment).1)

-- no object is that of no batch
pub missing : (text : Option (List ℕ)) (number count : ℕ) → text ≡ None → HoldsNoneOf text number count
missing text number count none bytes rows at many segment = let both : None ≡ Some bytes = sym none ∙ at in cc

-- nor are bytes that were refused
pub refused : (text : Option (List ℕ)) (bytes : List ℕ) (number count : ℕ) (fault : Fault) → text ≡ Some bytes
    → fault ≡ BadLayout
    → (fault ≡ Memory)
    ⊎ ((fault ≡ BadLayout) × ((rows : List LineOrder) → length rows ≡ count → IsSegment bytes number rows → ⊥))
    → HoldsNoneOf text number count
refused text bytes number count fault there is why others rows at many segment =
    let same : others ≡ bytes = some_one others bytes (sym at ∙ there) in
    ⊎_elim (λ (memory : fault ≡ Memory). let both : BadLayout ≡ Memory = sym is ∙ memory in absurd cc)
    (λ (bad : (fault ≡ BadLayout) × ((l : List LineOrder) → length l ≡ count → IsSegment bytes number l → ⊥)). bad.1
    rows many (subst (λ (b : List ℕ). IsSegment b number rows) same segment)) why

-- of the causes of a read there is only memory, where the device does not fail and the batches are as the root says
pub only_memory : (fault : Fault) → (fault ≡ Memory) ⊎ ((fault ≡ Device) ⊎ (fault ≡ BadLayout)) → (fault ≡ Device → ⊥)
    → (fault ≡ BadLayout → ⊥) → fault ≡ Memory
only_memory fault causes other there =
    ⊎_elim (λ (memory : fault ≡ Memory). memory)
    (λ (two : (fault ≡ Device) ⊎ (fault ≡ BadLayout)). absurd
    (⊎_elim (λ (device : fault ≡ Device). other device) (λ (bad : fault ≡ BadLayout). there bad) two)) causes
