-- When the stored batch of a number is some rows.
use Rattle.std.proofs.Common.{◌≡◌, ◌↔◌, ◌∙◌, ℕ, zero, suc, ◌+◌, ◌≤◌, List, ◌++◌, Option, Some, None, map, length, take}
use Rattle.std.proofs.Common.{drop, option_map, refl, sym, ap, subst, arith}
use Rattle.std.specs.Option.{IfNone, IfSome}
use Rattle.std.proofs.Math.Seq.{take-add}
use Rattle.std.proofs.lemmas.List.{take_all}
use Rattle.std.proofs.lemmas.Option.{slice_get-map}
use Rattle.cube_model.specs.declared.rows.LineOrder.{LineOrder}
use Rattle.cube_model.specs.Admission.{long_text}
use Rattle.cube_model.specs.Limits.{most_batches}
use Rattle.column_segment.specs.Segment.{FitColumns, IsBatch, IsSegment, segment_of}
use Rattle.batch_admission.proofs.CallerLemmas.{passes}
use Rattle.object_store.specs.Content.{Content, bytes_of}
use Rattle.warehouse_root.specs.Objects.{segment_id}
use Rattle.warehouse_root.specs.Root.{PlainRoot}
use Rattle.warehouse_objects.specs.Represents.{Represents, root_of}
use Rattle.warehouse_objects.specs.Warehouse.{Warehouse}
use Rattle.warehouse_objects.proofs.Folded.{batch_bytes, found_at}
use Rattle.warehouse.specs.Comparing.{numbered}
use Rattle.wire.specs.Parts.{Gives}

-- ---- bytes that are read part by part

-- a text and bytes agree up to a place
abbrev pub AgreeUpTo : Option (List ℕ) → List ℕ → ℕ → Type 0
AgreeUpTo text bytes at = IfSome text (λ t. take at t ≡ take at bytes)

pub agree-none : (text : Option (List ℕ)) (bytes : List ℕ) → AgreeUpTo text bytes 0
agree-none None bytes = tt
agree-none (Some t) bytes = refl

pub agree-more : (text : Option (List ℕ)) (bytes part : List ℕ) (at n : ℕ) → AgreeUpTo text bytes at
    → Gives text at part → length part ≡ n → part ≡ take n (drop at bytes) → AgreeUpTo text bytes (at + n)
agree-more None bytes part at n so_far gives many same = tt
agree-more (Some t) bytes part at n so_far gives many same =
    let here : take n (drop at t) ≡ take n (drop at bytes) = ap (λ (k : ℕ). take k (drop at t)) (sym many) ∙ sym gives
    ∙ same in
    take-add at n t ∙ ap (λ (l : List ℕ). l ++ take n (drop at t)) so_far ∙ ap (λ (l : List ℕ). take at bytes ++ l) here
    ∙ sym (take-add at n bytes)

pub differ : (text : Option (List ℕ)) (bytes part : List ℕ) (at n : ℕ) → Gives text at part → length part ≡ n
    → (part ≡ take n (drop at bytes) → ⊥) → text ≡ Some bytes → ⊥
differ None bytes part at n gives many other is = absurd gives
differ (Some t) bytes part at n gives many other is =
    let same : t ≡ bytes = cc in
    other (gives ∙ ap (λ (k : ℕ). take k (drop at t)) many ∙ ap (λ (l : List ℕ). take n (drop at l)) same)

pub agree-all : (text : Option (List ℕ)) (bytes : List ℕ) (at : ℕ) → Some (length bytes) ≡ option_map length text
    → length bytes ≤ at → AgreeUpTo text bytes at → text ≡ Some bytes
agree-all None bytes at has past agree = absurd cc
agree-all (Some t) bytes at has past agree =
    let many : length bytes ≡ length t = cc in
    ap Some (sym (take_all at t (omega (arith, many, past))) ∙ agree ∙ take_all at bytes past)

pub other-length : (text : Option (List ℕ)) (bytes : List ℕ) (total : Option ℕ) → total ≡ option_map length text
    → (total ≡ Some (length bytes) → ⊥) → text ≡ Some bytes → ⊥
other-length text bytes total is other same = other (is ∙ ap (option_map length) same)

-- what is said where there is nothing
pub none-so : {X : Type 0} (P : Type 0) (found : Option X) → found ≡ None → IfNone found P → P
none-so {X} P found is so = subst (λ (o : Option X). IfNone o P) is so

-- ---- a batch by its number

pub numbered-map : {A B : Type 0} (f : A → B) (items : List A) (number : ℕ)
    → numbered (map f items) number ≡ option_map f (numbered items number)
numbered-map f items zero = refl
numbered-map f items (suc before) = slice_get-map f items before

-- where the root has another count of rows, it is another batch
pub other-count : (w : Warehouse) (root : PlainRoot) (number count : ℕ) (rows : List LineOrder) → root ≡ root_of w
    → count ≡ length rows
    → (numbered root.batches number ≡ Some count → ⊥) → numbered w.batches number ≡ Some rows → ⊥
other-count w root number count rows is many other here =
    other (ap (λ (r : PlainRoot). numbered r.batches number) is ∙ numbered-map length w.batches number
    ∙ ap (option_map length) here ∙ ap Some (sym many))

module _ (c : Content) (w : Warehouse) (represents : Represents c w) where
  -- no stored batch has a text that is too long
  pub never-long : (number : ℕ) (rows : List LineOrder) → (long_text 1 rows ≡ None → ⊥)
      → numbered w.batches number ≡ Some rows → ⊥
  never-long zero rows long here = cc
  never-long (suc before) rows long here =
      long (passes w.rows (take before w.batches) (length (take before w.batches) + 1) rows
      (represents.batches before rows here).admissible).texts

  -- the object of a number has the bytes of some rows exactly where its batch is these rows
  pub is-there : (number id : ℕ) (rows : List LineOrder) (bytes : List ℕ) → number ≤ most_batches
      → id ≡ segment_id number → IsBatch rows → FitColumns rows → bytes ≡ segment_of number rows
      → (bytes_of c id ≡ Some bytes) ↔ (numbered w.batches number ≡ Some rows)
  is-there zero id rows bytes few placed batch fits spelled = (
    λ at. let none : None ≡ Some bytes = sym (represents.objects 65536) ∙ ap (bytes_of c) (sym placed) ∙ at in
        absurd cc,
    λ here. absurd cc,
  )
  is-there (suc before) id rows bytes few placed batch fits spelled =
      let numbered_is : suc before ≡ before + 1 = omega arith in
      let place : id ≡ 65537 + before = omega (arith, placed) in
      let segment : IsSegment bytes (suc before) rows =
      record { spelled = spelled; number_fits = omega (arith, few); batch = batch; fits = fits } in (
        λ at. found_at c w represents before (suc before) id numbered_is placed (omega (arith, few)) bytes rows at
            segment,
        λ here. ap (bytes_of c) place ∙ batch_bytes c w represents before rows (omega (arith, few)) here
            ∙ ap (λ (n : ℕ). Some (segment_of n rows)) (sym numbered_is) ∙ ap Some (sym spelled),
      )
