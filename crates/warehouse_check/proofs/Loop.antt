-- The batches of a content that were taken in so far.
use Rattle.std.proofs.Common.{◌≡◌, ◌∙◌, ◌+◌, ◌<◌, ◌==◌, if◌then◌else◌, zero, suc, ℕ, true, false, IsTrue, is_some, None}
use Rattle.std.proofs.Common.{List, [], ◌∷◌, ◌++◌, Option, Some, get_or, length, length-append, map, slice_get, take}
use Rattle.std.proofs.Common.{refl, sym, ap, subst, add-one, arith}
use Rattle.std.proofs.lemmas.Bool.Decides.{nat_tests}
use Rattle.std.proofs.lemmas.List.{length-take-le, map-append}
use Rattle.std.specs.Option.{option_map}
use Rattle.std.proofs.lemmas.Option.{slice_get-map}
use Rattle.cube_model.specs.declared.rows.DimRows.{DimRows}
use Rattle.cube_model.specs.declared.rows.LineOrder.{LineOrder}
use Rattle.object_store.specs.Content.{Content}
use Rattle.batch_admission.specs.Accepted.{Accepted, HasAccepted}
use Rattle.warehouse_root.specs.Objects.{segment_id}
use Rattle.warehouse_objects.specs.Represents.{IsLaidOut}
use Rattle.warehouse_objects.specs.Warehouse.{Warehouse}
use Rattle.warehouse_objects.proofs.Batches.{get_within, in_order_more, in_order_none, slice_get_snoc, some_one}
use Rattle.warehouse_objects.proofs.Batches.{take_next}
use Rattle.warehouse_check.specs.Checked.{AreBatches, IsCheckedBatch, IsSegmentAt}
use Rattle.warehouse_check.proofs.Segments.{own_rows}

-- so many batches were taken in; where the device keeps its word they are those of the content
pub record AreSoFar (keeps : Type 0) (c : Content) (dimensions : DimRows) (counts : List ℕ) (index : ℕ)
    (admission : Accepted) : Type 0 where
  pub batches : List (List LineOrder)
  pub represent : HasAccepted admission batches
  pub many : length batches ≡ index
  pub are : keeps → AreBatches c dimensions (take index counts) batches

pub so_far_none : (keeps : Type 0) (c : Content) (dimensions : DimRows) (counts : List ℕ) (admission : Accepted)
    → HasAccepted admission [] → AreSoFar keeps c dimensions counts 0 admission
so_far_none keeps c dimensions counts admission represent = record {
  batches = [];
  represent = represent;
  many = refl;
  are = λ k. record { counted = refl; segments = λ before batch is. absurd cc; in_order = in_order_none dimensions };
}

segments_more : (c : Content) (batches : List (List LineOrder)) (rows : List LineOrder)
    → ((before : ℕ) (batch : List LineOrder) → slice_get batches before ≡ Some batch
    → IsSegmentAt c (segment_id (before + 1)) (before + 1) batch)
    → IsSegmentAt c (segment_id (length batches + 1)) (length batches + 1) rows
    → (before : ℕ) (batch : List LineOrder) → slice_get (batches ++ rows ∷ []) before ≡ Some batch
    → IsSegmentAt c (segment_id (before + 1)) (before + 1) batch
segments_more c batches rows so_far next before batch is =
    (elim (length batches == before) as (λ t. (length batches == before) ≡ t
    → (if t then Some rows else slice_get batches before) ≡ Some batch
    → IsSegmentAt c (segment_id (before + 1)) (before + 1) batch) [
      | true ↦ λ e here.
          (let last : length batches ≡ before = grind (arith, nat_tests, e) in
          subst (λ (n : ℕ). IsSegmentAt c (segment_id (n + 1)) (n + 1) batch) last
          (subst (λ (l : List LineOrder). IsSegmentAt c (segment_id (length batches + 1)) (length batches + 1) l)
          (some_one rows batch here) next))
      | false ↦ λ e there. so_far before batch there
    ]) refl (sym (slice_get_snoc batches rows before) ∙ is)

-- one batch more
pub so_far_next : (keeps after : Type 0) (c now : Content) (dimensions : DimRows) (counts : List ℕ) (index said : ℕ)
    (old new : Accepted) → (after → keeps) → (after → now ≡ c) → slice_get counts index ≡ Some said
    → (so_far : AreSoFar keeps c dimensions counts index old)
    → IsCheckedBatch after now dimensions so_far.batches said new
    → AreSoFar after c dimensions counts (index + 1) new
so_far_next keeps after c now dimensions counts index said old new word same here so_far next =
    let rows = next.rows in
    let one : take (index + 1) counts ≡ take index counts ++ said ∷ [] = ap (λ (n : ℕ). take n counts) (add-one index)
    ∙ take_next counts index said here in record {
      batches = so_far.batches ++ rows ∷ [];
      represent = next.taken.represents;
      many = length-append so_far.batches (rows ∷ []) ∙ ap (λ n. n + 1) so_far.many;
      are = λ k.
          let before = so_far.are (word k) in record {
            counted = map-append length so_far.batches (rows ∷ [])
                ∙ ap (λ (l : List ℕ). l ++ length rows ∷ []) before.counted
                ∙ ap (λ n. take index counts ++ n ∷ []) next.taken.count ∙ sym one;
            segments = segments_more c so_far.batches rows before.segments
                (subst (λ (x : Content). IsSegmentAt x (segment_id (length so_far.batches + 1))
                (length so_far.batches + 1) rows) (same k) (next.there k));
            in_order = in_order_more dimensions so_far.batches rows before.in_order next.taken.next;
          };
    }

-- and it is that of the warehouse of the content
pub own_next : (after : Type 0) (c now : Content) (w : Warehouse) (dimensions : DimRows) (index said : ℕ)
    (new : Accepted) → IsLaidOut c w → now ≡ c → after → index < length w.batches
    → IsCheckedBatch after now dimensions (take index w.batches) said new → HasAccepted new (take (index + 1) w.batches)
own_next after c now w dimensions index said new laid same k within next =
    let got = get_within w.batches index within in
    let length_is : length (take index w.batches) ≡ index = length-take-le index w.batches (omega (arith, within)) in
    let there : IsSegmentAt c (segment_id (index + 1)) (index + 1) next.rows =
    subst (λ (x : Content). IsSegmentAt x (segment_id (index + 1)) (index + 1) next.rows) same
    (subst (λ (n : ℕ). IsSegmentAt now (segment_id (n + 1)) (n + 1) next.rows) length_is (next.there k)) in
    let is : next.rows ≡ got.0 = (own_rows c w laid index got.0 got.1 (index + 1) next.rows there).1 in
    let more : take (index + 1) w.batches ≡ take index w.batches ++ next.rows ∷ [] =
    ap (λ (n : ℕ). take n w.batches) (add-one index) ∙ take_next w.batches index got.0 got.1
    ∙ ap (λ (b : List LineOrder). take index w.batches ++ b ∷ []) (sym is) in
    subst (HasAccepted new) (sym more) next.taken.represents

-- what is said at a place
pub here_at : (counts : List ℕ) (n d : ℕ) → n < length counts → slice_get counts n ≡ Some (get_or counts n d)
here_at [] n d lt = absurd (omega (arith, lt))
here_at (x ∷ counts) zero d lt = refl
here_at (x ∷ counts) (suc n) d lt = here_at counts n d (omega (arith, lt))

-- how many rows the root of a warehouse says a batch has
pub count_at : (batches : List (List LineOrder)) (n d : ℕ) (batch : List LineOrder) → slice_get batches n ≡ Some batch
    → n < length (map length batches) → get_or (map length batches) n d ≡ length batch
count_at batches n d batch is lt =
    some_one _ _ (sym (here_at (map length batches) n d lt) ∙ slice_get-map length batches n
    ∙ ap (option_map length) is)

-- nothing was found
pub none_of : {X : Type 0} (found : Option X) → is_some found ≡ false → found ≡ None
none_of None none = refl
none_of (Some x) none = absurd cc

pub never_both : {X : Type 0} (found : Option X) → found ≡ None → IsTrue (is_some found) → ⊥
never_both None none is = cc
never_both (Some x) none is = cc

pub count_in : (counts : List ℕ) (batches : List (List LineOrder)) (n d : ℕ) (batch : List LineOrder)
    → counts ≡ map length batches → n < length counts → slice_get batches n ≡ Some batch
    → get_or counts n d ≡ length batch
count_in counts batches n d batch same lt is =
    ap (λ (l : List ℕ). get_or l n d) same
    ∙ count_at batches n d batch is (subst (λ (l : List ℕ). n < length l) same lt)
