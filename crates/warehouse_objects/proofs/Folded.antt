-- Batches that are read and counted one after another.
use Rattle.std.proofs.Common.{◌≡◌, ◌⊎◌, inl, inr, ⊎_elim, get_or, map, ◌+◌, ◌<◌, ℕ, List, ◌++◌, Option, Some, None}
use Rattle.std.proofs.Common.{length, take, slice_get, Result, Ok, Err, IfErr, IsErrOf, OnOk, refl, sym, ◌∙◌, ap, subst}
use Rattle.std.proofs.Common.{add-one, arith}
use Rattle.std.specs.Option.{IfSome, IsSomeAnd, option_map}
use Rattle.std.proofs.lemmas.Option.{get_or_from_slice_get, slice_get-map}
use Rattle.cube_model.specs.Admission.{all_rows}
use Rattle.cube_model.specs.declared.fault.Fault.{Fault}
use Rattle.cube_model.specs.declared.fault.Fault.TheVariants.{BadLayout, Device, Memory}
use Rattle.cube_model.specs.declared.rows.DimRows.{DimRows}
use Rattle.cube_model.specs.declared.rows.LineOrder.{LineOrder}
use Rattle.object_store.specs.Content.{Content, bytes_of}
use Rattle.column_segment.specs.declared.columns.FactColumn.{FactColumn}
use Rattle.column_segment.specs.Projected.{AgreeOn, HoldsNoneOf}
use Rattle.column_segment.specs.Segment.{IsSegment, segment_of}
use Rattle.column_segment.proofs.CallerLemmas.{IsSegment-one}
use Rattle.cube_query.specs.Groups.{CanTake, FoldState, RepresentsRows}
use Rattle.group_tallies.specs.Limits.{AreFoldable}
use Rattle.warehouse_objects.specs.Represents.{Represents}
use Rattle.warehouse_objects.specs.Warehouse.{Warehouse}
use Rattle.warehouse_objects.proofs.Batches.{foldable, rows_next, segment_at, some_one}
use Rattle.warehouse_objects.proofs.Contents.{object_batch}

-- ---- the batches of a warehouse

module _ (c : Content) (w : Warehouse) (represents : Represents c w) where
  pub batch_bytes : (before : ℕ) (batch : List LineOrder) → before < 65535 → slice_get w.batches before ≡ Some batch
      → bytes_of c (65537 + before) ≡ Some (segment_of (before + 1) batch)
  batch_bytes before batch low is = represents.objects (65537 + before) ∙ object_batch w before low
      ∙ ap (option_map (segment_of (before + 1))) is

  pub same_batch : (before : ℕ) (batch : List LineOrder) (bytes : List ℕ) (number : ℕ) (rows : List LineOrder)
      → before < 65535 → slice_get w.batches before ≡ Some batch → bytes_of c (65537 + before) ≡ Some bytes
      → IsSegment bytes number rows → (number ≡ before + 1) × (rows ≡ batch)
  same_batch before batch bytes number rows low is at segment =
      let own = segment_at w.rows w.batches represents.batches before batch is in
      IsSegment-one bytes number (before + 1) rows batch segment
      (record {
        spelled = some_one _ _ (sym at ∙ batch_bytes before batch low is);
        number_fits = own.number_fits;
        batch = own.batch;
        fits = own.fits;
      })

  pub batch_found : (before : ℕ) (bytes : List ℕ) (number : ℕ) (rows : List LineOrder) → before < 65535
      → bytes_of c (65537 + before) ≡ Some bytes → IsSegment bytes number rows → slice_get w.batches before ≡ Some rows
  batch_found before bytes number rows low at segment = by (slice_get w.batches before) refl
    where
      by : (o : Option (List LineOrder)) → slice_get w.batches before ≡ o → slice_get w.batches before ≡ Some rows
      by None e = let none : None ≡ Some bytes =
          sym (represents.objects (65537 + before) ∙ object_batch w before low
          ∙ ap (option_map (segment_of (before + 1))) e) ∙ at in absurd cc
      by (Some x) e = e
          ∙ ap (λ (l : List LineOrder). Some l) (sym (same_batch before x bytes number rows low e at segment).1)

  -- the batch after so many, at the id of its number
  module _ (before number id : ℕ) (numbered : number ≡ before + 1) (placed : id ≡ 65536 + number) (low : before < 65535)
    where
      at_id : bytes_of c (65537 + before) ≡ bytes_of c id
      at_id = let same : 65537 + before ≡ id = omega (arith, numbered, placed) in ap (λ (n : ℕ). bytes_of c n) same

      pub found_at : (bytes : List ℕ) (rows : List LineOrder) → bytes_of c id ≡ Some bytes → IsSegment bytes number rows
          → slice_get w.batches before ≡ Some rows
      found_at bytes rows at segment = batch_found before bytes number rows low (at_id ∙ at) segment

      module _ (batch : List LineOrder) (here : slice_get w.batches before ≡ Some batch) where
        segment_there : (bytes : List ℕ) → bytes_of c id ≡ Some bytes → IsSegment bytes number batch
        segment_there bytes at =
            let own = segment_at w.rows w.batches represents.batches before batch here in
            let bytes_are : bytes ≡ segment_of (before + 1) batch =
            some_one bytes (segment_of (before + 1) batch) (sym at ∙ sym at_id ∙ batch_bytes before batch low here) in
            subst (λ (n : ℕ). IsSegment bytes n batch) (sym numbered)
            (record { spelled = bytes_are; number_fits = own.number_fits; batch = own.batch; fits = own.fits })

        -- so the text there is that of a batch of the number, and of as many rows
        pub none_there : HoldsNoneOf (bytes_of c id) number (length batch) → ⊥
        none_there none = let at = sym at_id ∙ batch_bytes before batch low here in
            none (segment_of (before + 1) batch) batch at refl (segment_there (segment_of (before + 1) batch) at)

      -- the batch there agrees with rows, if what was read of its bytes does
      pub batch_agrees : (columns : List FactColumn) (rows : List LineOrder)
          → IsSomeAnd (bytes_of c id) (λ bytes. (other : ℕ) (others : List LineOrder) → IsSegment bytes other others
          → (other ≡ number) × AgreeOn columns rows others)
          → (batch : List LineOrder) × (slice_get w.batches before ≡ Some batch) × AgreeOn columns rows batch
      batch_agrees columns rows found = by (bytes_of c id) refl found
        where
          none_there : (bytes : List ℕ) → bytes_of c id ≡ Some bytes → slice_get w.batches before ≡ None → ⊥
          none_there bytes at none =
              let both : None ≡ Some bytes =
              sym (represents.objects (65537 + before) ∙ object_batch w before low
              ∙ ap (option_map (segment_of (before + 1))) none) ∙ at_id ∙ at in cc

          by_batch : (bytes : List ℕ) → bytes_of c id ≡ Some bytes
              → ((other : ℕ) (others : List LineOrder) → IsSegment bytes other others
              → (other ≡ number) × AgreeOn columns rows others)
              → (o : Option (List LineOrder)) → slice_get w.batches before ≡ o → (batch : List LineOrder)
              × (slice_get w.batches before ≡ Some batch) × AgreeOn columns rows batch
          by_batch bytes at agree None none = absurd (none_there bytes at none)
          by_batch bytes at agree (Some batch) here =
              (batch, here, (agree number batch (segment_there batch here bytes at)).1)

          by : (o : Option (List ℕ)) → bytes_of c id ≡ o
              → IsSomeAnd o (λ bytes. (other : ℕ) (others : List LineOrder) → IsSegment bytes other others
              → (other ≡ number) × AgreeOn columns rows others)
              → (batch : List LineOrder) × (slice_get w.batches before ≡ Some batch) × AgreeOn columns rows batch
          by None at none = absurd none
          by (Some bytes) at agree = by_batch bytes at agree (slice_get w.batches before) refl

  -- a batch can be taken after those before it
  pub can_take_there : (dims : DimRows) (fold : FoldState) (before : ℕ) (batch : List LineOrder)
      → slice_get w.batches before ≡ Some batch
      → AreFoldable dims (all_rows (take (before + 1) w.batches))
      → RepresentsRows dims fold (all_rows (take before w.batches)) → CanTake dims fold batch
  can_take_there dims fold before batch here all so_far =
      let more : all_rows (take (before + 1) w.batches) ≡ all_rows (take before w.batches) ++ batch =
      ap (λ (n : ℕ). all_rows (take n w.batches)) (add-one before) ∙ rows_next w.batches before batch here in
      (all_rows (take before w.batches), (so_far, subst (λ (l : List LineOrder). AreFoldable dims l) more all))

  -- the dimensions of the warehouse have the keys of its batches
  pub own_foldable : (dims : DimRows) (before : ℕ) → dims ≡ w.rows → before < length w.batches
      → AreFoldable dims (all_rows (take (before + 1) w.batches))
  own_foldable dims before same less =
      subst (λ (d : DimRows). AreFoldable d (all_rows (take (before + 1) w.batches))) (sym same)
      (foldable w.rows w.batches represents.batches (before + 1) (omega (arith, less)))

  -- how many rows the root says it has
  pub count_there : (before : ℕ) (batch : List LineOrder) → slice_get w.batches before ≡ Some batch
      → get_or (map length w.batches) before 0 ≡ length batch
  count_there before batch here =
      get_or_from_slice_get (map length w.batches) before (length batch) 0
      (slice_get-map length w.batches before ∙ ap (option_map length) here)

-- ---- the rows of some bytes

module _ (bytes : List ℕ) (number count : ℕ) where
  abbrev pub NoRows : Type 0
  NoRows = (rows : List LineOrder) → length rows ≡ count → IsSegment bytes number rows → ⊥

  -- a segment that has another number, or another count of rows
  pub other_rows : (own : ℕ) (rows : List LineOrder) → IsSegment bytes own rows
      → (own ≡ number → length rows ≡ count → ⊥) → NoRows
  other_rows own rows segment other others many also =
      let same = IsSegment-one bytes own number rows others segment also in
      other same.0 (ap (λ (l : List LineOrder). length l) same.1 ∙ many)

-- ---- refusals

pub ok_so : {X : Type 0} (A B : Type 0) (result : Result X Fault) → (A → B) → OnOk result A → OnOk result B
ok_so A B (Ok x) so a = so a
ok_so A B (Err fault) so a = tt

-- the causes for which a fold refuses rows
pub of_counts : (fault : Fault) → (fault ≡ Memory) ⊎ (fault ≡ BadLayout) → (fault ≡ Memory)
    ⊎ ((fault ≡ Device) ⊎ (fault ≡ BadLayout))
of_counts fault (inl memory) = inl memory
of_counts fault (inr bad) = inr (inr bad)

pub of_fault : {X : Type 0} (P : Fault → Type 0) (result : Result X Fault) (fault : Fault) → IfErr result P
    → IsErrOf result fault → P fault
of_fault {X} P result fault all is = subst (λ (r : Result X Fault). IfErr r P) is all

pub bad_one : (Q : Type 0) (P : Type 0) → (BadLayout ≡ Memory) ⊎ ((BadLayout ≡ BadLayout) × P) → (P → Q) → Q
bad_one Q P cause so = ⊎_elim (λ (memory : BadLayout ≡ Memory). absurd cc) (λ bad. so bad.1) cause

pub never_device : (P : Type 0) → (Device ≡ Memory) ⊎ ((Device ≡ BadLayout) × P) → ⊥
never_device P cause =
    ⊎_elim (λ (memory : Device ≡ Memory). absurd cc)
    (λ (bad : (Device ≡ BadLayout) × P). let no_fault : Device ≡ BadLayout = bad.0 in absurd cc) cause

pub err_fault : {X : Type 0} (one other : Fault) → IsErrOf {T = X} (Err one) other → one ≡ other
err_fault one other is = cc

-- ---- what was found

pub some_of : {X : Type 0} (P : X → Type 0) (found : Option X) (x : X) → found ≡ Some x → IfSome found P → P x
some_of {X} P found x is holds = subst (λ (o : Option X). IfSome o P) is holds
