-- The segments of a content that is laid out as a warehouse's.
use Rattle.std.proofs.Common.{◌≡◌, ◌∙◌, ◌+◌, ◌<◌, ℕ, List, Option, Some, None, length}
use Rattle.std.proofs.Common.{slice_get, take, sym, ap, subst, arith}
use Rattle.std.specs.Option.{IsSomeAnd, option_map}
use Rattle.std.proofs.lemmas.Option.{slice_get_within}
use Rattle.cube_model.specs.declared.rows.LineOrder.{LineOrder}
use Rattle.object_store.specs.Content.{Content, bytes_of}
use Rattle.column_segment.specs.Segment.{IsSegment, segment_of}
use Rattle.column_segment.proofs.CallerLemmas.{IsSegment-one}
use Rattle.warehouse_root.specs.Objects.{segment_id}
use Rattle.warehouse_objects.specs.Represents.{IsLaidOut}
use Rattle.warehouse_objects.specs.Warehouse.{IsNext, Warehouse}
use Rattle.warehouse_objects.proofs.CallerLemmas.{few_batches, object_batch, segment_at}
use Rattle.warehouse_check.specs.Checked.{IsSegmentAt}

-- what an object is said to be, by its bytes
pub segment_by : (found : Option (List ℕ)) (bytes : List ℕ) (P : List ℕ → Type 0) → found ≡ Some bytes → P bytes
    → IsSomeAnd found P
segment_by found bytes P is holds = subst (λ (o : Option (List ℕ)). IsSomeAnd o P) (sym is) holds

-- an object is one segment
pub segment_one : (found : Option (List ℕ)) (number other : ℕ) (rows others : List LineOrder)
    → IsSomeAnd found (λ bytes. IsSegment bytes number rows) → IsSomeAnd found (λ bytes. IsSegment bytes other others)
    → (number ≡ other) × (rows ≡ others)
segment_one None number other rows others is too = absurd is
segment_one (Some bytes) number other rows others is too = IsSegment-one bytes number other rows others is too

-- the object of bytes that are no segment
pub none_there : (found : Option (List ℕ)) (number : ℕ) (rows : List LineOrder) → found ≡ None
    → IsSomeAnd found (λ bytes. IsSegment bytes number rows) → ⊥
none_there found number rows none is =
    subst (λ (o : Option (List ℕ)). IsSomeAnd o (λ bytes. IsSegment bytes number rows)) none is

pub not_there : (found : Option (List ℕ)) (bytes : List ℕ) (number : ℕ) (rows : List LineOrder) → found ≡ Some bytes
    → (IsSegment bytes number rows → ⊥) → IsSomeAnd found (λ bytes. IsSegment bytes number rows) → ⊥
not_there found bytes number rows some not is =
    not (subst (λ (o : Option (List ℕ)). IsSomeAnd o (λ bytes. IsSegment bytes number rows)) some is)

-- a batch of a warehouse is the segment at its id
module _ (c : Content) (w : Warehouse) (laid : IsLaidOut c w) (before : ℕ) (batch : List LineOrder)
    (here : slice_get w.batches before ≡ Some batch) where
  within : before < length w.batches
  within = slice_get_within w.batches before batch here

  bytes_here : bytes_of c (segment_id (before + 1)) ≡ Some (segment_of (before + 1) batch)
  bytes_here =
      let few = few_batches w.rows w.batches laid.batches in
      let same : segment_id (before + 1) ≡ 65537 + before = omega arith in
      ap (λ (n : ℕ). bytes_of c n) same ∙ laid.objects (65537 + before)
      ∙ object_batch w before (omega (arith, few, within)) ∙ ap (option_map (segment_of (before + 1))) here

  pub laid_segment : IsSegmentAt c (segment_id (before + 1)) (before + 1) batch
  laid_segment = segment_by (bytes_of c (segment_id (before + 1))) (segment_of (before + 1) batch)
      (λ bytes. IsSegment bytes (before + 1) batch) bytes_here
      (segment_at w.rows w.batches laid.batches before batch here)

  -- and no other one
  pub own_rows : (number : ℕ) (rows : List LineOrder) → IsSegmentAt c (segment_id (before + 1)) number rows
      → (number ≡ before + 1) × (rows ≡ batch)
  own_rows number rows is = segment_one (bytes_of c (segment_id (before + 1))) number (before + 1) rows batch is
      laid_segment

  pub own_next : (rows : List LineOrder) → rows ≡ batch → IsNext w.rows (take before w.batches) rows
  own_next rows same = subst (λ (l : List LineOrder). IsNext w.rows (take before w.batches) l) (sym same)
      (laid.batches before batch here)
