-- The objects that the root of a warehouse asks for.
use Rattle.std.proofs.Common.{◌≡◌, ◌⊎◌, inl, inr, ⊎_elim, ◌<◌, ◌≤◌, ◌+◌, ◌-◌, ◌*◌, ◌/◌, ◌%◌, ◌==◌, nat_eq, nat_lt}
use Rattle.std.proofs.Common.{if◌then◌else◌, Bool, true, false, ◌||◌, is_some, IsTrue, All, Option, Some, None, List}
use Rattle.std.proofs.Common.{[], ◌∷◌, ◌++◌, ℕ, zero, suc, length, map, get_or, slice_get, sym, ◌∙◌, ap, refl, subst}
use Rattle.std.proofs.Common.{arith, length-append}
use Rattle.std.specs.Cmp.{IsEquivalence}
use Rattle.cube_model.specs.declared.attr.Axis.TheVariants.{Customer, Supplier, Part, Date}
use Rattle.cube_model.specs.declared.rows.LineOrder.{LineOrder}
use Rattle.std.specs.List.{AllPairs, IsDistinct, flat_map, list_any, range_with_len}
use Rattle.std.specs.Option.{option_map}
use Rattle.std.proofs.Math.Nat.{div-add-mod}
use Rattle.std.proofs.lemmas.Bool.{cases_lt, cases_eq}
use Rattle.std.proofs.lemmas.Bool.Decides.{Decides-eqb, nat_tests}
use Rattle.std.proofs.lemmas.List.{get_or-map, length-map}
use Rattle.std.proofs.lemmas.List.Elements.{All-append, All-cons, All-head, All-nil, All-tail}
use Rattle.std.proofs.lemmas.List.FromFn.{get_or-range_with_len, length-range_with_len}
use Rattle.std.proofs.lemmas.Map.Made.{IsDistinct-from_AllPairs, length-le_from_is_member}
use Rattle.object_store.specs.Content.{Content, bytes_of, look_up}
use Rattle.column_segment.specs.Segment.{segment_of}
use Rattle.lattice.specs.Views.{index_of}
use Rattle.warehouse_root.specs.declared.cuboid.StoredCuboid.{StoredCuboid}
use Rattle.warehouse_root.specs.declared.layout.Layout.{Layout}
use Rattle.warehouse_root.specs.declared.layout.Layout.TheVariants.{First, Second}
use Rattle.warehouse_root.specs.Layouts.{dimension_object_count}
use Rattle.warehouse_root.specs.Objects.{dimension_ids, object_ids, run_id, run_ids}
use Rattle.warehouse_objects.specs.Warehouse.{Cuboid, Warehouse, cuboid_at, ship_modes_of}
use Rattle.warehouse_objects.specs.Represents.{HasItsObjects, Represents, dimension_of, root_of, run_after, run_bytes}
use Rattle.warehouse_objects.specs.Represents.{modes_object, run_in, said_of}
use Rattle.warehouse_objects.proofs.Batches.{few_batches, get_within}
use Rattle.warehouse_objects.proofs.Contents.{object_batch}
use Rattle.warehouse_objects.proofs.OneWarehouse.{object_run}

all_range : (P : ℕ → Type 0) (a n : ℕ) → ((k : ℕ) → k < n → P (a + k)) → All P (range_with_len a n)
all_range P a n each k d lt =
    let within : k < n = omega (arith, lt, length-range_with_len a n) in
    subst P (sym (get_or-range_with_len a n k d within)) (each k within)

all_flat : {A : Type 0} (P : ℕ → Type 0) (f : A → List ℕ) (xs : List A) → All (λ x. All P (f x)) xs
    → All P (flat_map f xs)
all_flat P f [] all = All-nil P
all_flat P f (x ∷ xs) all =
    All-append P (f x) (flat_map f xs) (All-head (λ y. All P (f y)) x xs all)
    (all_flat P f xs (All-tail (λ y. All P (f y)) x xs all))

-- ---- what is there is asked for

pub nat_eq_laws : IsEquivalence nat_eq
nat_eq_laws = record {
  refl = λ a. grind (arith, nat_tests);
  symm = λ a b. grind (arith, nat_tests);
  congr = λ a b c same. grind (arith, nat_tests, same);
}

abbrev pub asks : List ℕ → ℕ → Bool
asks ids id = list_any (nat_eq id) ids

either : (a b : Bool) → (a ≡ true) ⊎ (b ≡ true) → (a || b) ≡ true
either true b one = refl
either false b (inl one) = absurd (cc one)
either false b (inr one) = one

asks_both : (xs ys : List ℕ) (id : ℕ) → (asks xs id ≡ true) ⊎ (asks ys id ≡ true) → asks (xs ++ ys) id ≡ true
asks_both [] ys id (inl one) = absurd (cc one)
asks_both [] ys id (inr one) = one
asks_both (x ∷ xs) ys id one =
    (elim (nat_eq id x) as (λ b. ((b || asks xs id) ≡ true) ⊎ (asks ys id ≡ true) → (b || asks (xs ++ ys) id) ≡ true) [
      | true ↦ λ _. refl
      | false ↦ λ o. asks_both xs ys id o
    ]) one

pub asks_range : (a n id : ℕ) → a ≤ id → id < a + n → asks (range_with_len a n) id ≡ true
asks_range a zero id least less = absurd (omega (arith, least, less))
asks_range a (suc n) id least less =
    either (nat_eq id a) (asks (range_with_len (a + 1) n) id)
    (⊎_elim (λ e. inl (grind (arith, nat_tests, e)))
    (λ ne. inr (asks_range (a + 1) n id (omega (arith, least, ne)) (omega (arith, less)))) (cases_eq id a))

some_within : {A : Type 0} (xs : List A) (k : ℕ) → is_some (slice_get xs k) ≡ true → k < length xs
some_within [] k some = absurd (cc some)
some_within (x ∷ xs) zero some = omega arith
some_within (x ∷ xs) (suc k) some = let rest = some_within xs k some in omega (arith, rest)

some_mapped : {A B : Type 0} (f : A → B) (o : Option A) → is_some (option_map f o) ≡ true → is_some o ≡ true
some_mapped f None some = some
some_mapped f (Some x) some = refl

-- the run of a view that is stored
asks_run : (cuboids : List Cuboid) (q m id : ℕ) → id ≡ run_id q m → is_some (run_in (cuboid_at q cuboids) m) ≡ true
    → asks (flat_map run_ids (map said_of cuboids)) id ≡ true
asks_run [] q m id is some = absurd (cc some)
asks_run (c ∷ cs) q m id is some =
    (elim (index_of c.view == q) as (λ t. (index_of c.view == q) ≡ t
    → is_some (run_in (if t then Some c else cuboid_at q cs) m) ≡ true
    → asks (run_ids (said_of c) ++ flat_map run_ids (map said_of cs)) id ≡ true) [
      | true ↦ λ e there.
          (let own : index_of c.view ≡ q = grind (arith, nat_tests, e) in
          let within : m < length c.runs =
          some_within c.runs m (some_mapped (run_bytes c) (slice_get c.runs m) there) in
          asks_both (run_ids (said_of c)) (flat_map run_ids (map said_of cs)) id
          (inl (asks_range (run_id (index_of c.view) 0) (length c.runs) id (omega (arith, is, own))
          (omega (arith, is, own, within)))))
      | false ↦ λ e there. asks_both (run_ids (said_of c)) (flat_map run_ids (map said_of cs)) id
          (inr (asks_run cs q m id is there))
    ]) refl some

looked_up : (objects : List (ℕ × List ℕ)) (id : ℕ)
    → asks (map (λ (o : ℕ × List ℕ). o.0) objects) id ≡ is_some (look_up id objects)
looked_up [] id = refl
looked_up (object ∷ objects) id =
    (elim (object.0 == id) as
    (λ t. (object.0 == id) ≡ t → (nat_eq id object.0 || asks (map (λ (o : ℕ × List ℕ). o.0) objects) id)
    ≡ is_some (if t then Some object.1 else look_up id objects)) [
      | true ↦ λ e.
          (let own : nat_eq id object.0 ≡ true = grind (arith, nat_tests, e) in
          ap (λ (b : Bool). b || asks (map (λ (o : ℕ × List ℕ). o.0) objects) id) own)
      | false ↦ λ e.
          (let other : nat_eq id object.0 ≡ false = grind (arith, nat_tests, e) in
          ap (λ (b : Bool). b || asks (map (λ (o : ℕ × List ℕ). o.0) objects) id) other ∙ looked_up objects id)
    ]) refl

id_there : (objects : List (ℕ × List ℕ)) (j : ℕ) → j < length objects → ℕ × List ℕ
id_there [] j within = absurd (omega (arith, within))
id_there (object ∷ objects) j within = object

once_distinct : (objects : List (ℕ × List ℕ))
    → AllPairs (λ (one : ℕ × List ℕ) (other : ℕ × List ℕ). one.0 < other.0) objects
    → IsDistinct nat_eq (map (λ (o : ℕ × List ℕ). o.0) objects)
once_distinct objects up =
    IsDistinct-from_AllPairs Decides-eqb (map (λ (o : ℕ × List ℕ). o.0) objects) (λ i j d before within same.
    let many : length (map (λ (o : ℕ × List ℕ). o.0) objects) ≡ length objects =
    length-map objects (λ (o : ℕ × List ℕ). o.0) in
    let one = id_there objects j (omega (arith, within, many)) in
    let at_i = get_or-map (λ (o : ℕ × List ℕ). o.0) objects i one d (omega (arith, before, within, many)) in
    let at_j = get_or-map (λ (o : ℕ × List ℕ). o.0) objects j one d (omega (arith, within, many)) in
    let less = up i j one before (omega (arith, within, many)) in
    omega (arith, less, at_i, at_j, same))

-- an id with an object is one of those
module _ (a b c d : List ℕ) (m : Option (List ℕ)) (seg : ℕ → List LineOrder → List ℕ) (batches : List (List LineOrder))
    (cuboids : List Cuboid) (count : ℕ) (four : 4 ≤ count) (fifth : is_some m ≡ true → 5 ≤ count) where
  abbrev found : ℕ → Option (List ℕ)
  found id =
      if id == 1 then Some a
      else (if id == 2 then Some b
      else (if id == 3 then Some c
      else (if id == 4 then Some d
      else (if id == 5 then m
      else (if nat_lt id 65537 then None
      else (if nat_lt id 131072 then option_map (seg (id - 65537 + 1)) (slice_get batches (id - 65537)) else run_after
      (id - 131072) cuboids))))))

  asked_for : (id : ℕ) → is_some (found id) ≡ true
      → asks (range_with_len 1 count
      ++ (range_with_len 65537 (length (map (λ (l : List LineOrder). length l) batches))
      ++ flat_map run_ids (map said_of cuboids))) id ≡ true
  asked_for id some = by (cases_lt id 6)
    where
      by : (id < 6) ⊎ (6 ≤ id)
          → asks (range_with_len 1 count
          ++ (range_with_len 65537 (length (map (λ (l : List LineOrder). length l) batches))
          ++ flat_map run_ids (map said_of cuboids))) id ≡ true
      by (inl lt) = asks_both (range_with_len 1 count) _ id (inl (low id lt some))
        where
          low : (id : ℕ) → id < 6 → is_some (found id) ≡ true → asks (range_with_len 1 count) id ≡ true
          low zero lt some = absurd (cc some)
          low (suc n) lt some = last (cases_lt (suc n) 5)
            where
              last : (suc n < 5) ⊎ (5 ≤ suc n) → asks (range_with_len 1 count) (suc n) ≡ true
              last (inl less) = asks_range 1 count (suc n) (omega arith) (omega (arith, less, four))
              last (inr at) =
                  let is : found (suc n) ≡ m = grind (arith, nat_tests, lt, at) in
                  asks_range 1 count (suc n) (omega arith) (omega (arith, lt, fifth (ap is_some (sym is) ∙ some)))
      by (inr le) = asks_both (range_with_len 1 count) _ id (inr (high (cases_lt id 131072)))
        where
          high : (id < 131072) ⊎ (131072 ≤ id)
              → asks (range_with_len 65537 (length (map (λ (l : List LineOrder). length l) batches))
              ++ flat_map run_ids (map said_of cuboids)) id ≡ true
          high (inl lt) = asks_both (range_with_len 65537 (length (map (λ (l : List LineOrder). length l) batches))) _
              id (inl (mid (cases_lt id 65537)))
            where
              mid : (id < 65537) ⊎ (65537 ≤ id)
                  → asks (range_with_len 65537 (length (map (λ (l : List LineOrder). length l) batches))) id ≡ true
              mid (inl less) = let none : is_some (found id) ≡ false = grind (arith, nat_tests, le, less) in
                  absurd (cc (sym none ∙ some))
              mid (inr least) =
                  let is : found id ≡ option_map (seg (id - 65537 + 1)) (slice_get batches (id - 65537)) =
                  grind (arith, nat_tests, le, least, lt) in
                  let within : id - 65537 < length batches =
                  some_within batches (id - 65537)
                  (some_mapped (seg (id - 65537 + 1)) (slice_get batches (id - 65537))
                  (ap is_some (sym is) ∙ some)) in
                  asks_range 65537 (length (map (λ (l : List LineOrder). length l) batches)) id least
                  (omega (arith, within, least, length-map batches (λ (l : List LineOrder). length l)))
          high (inr least) =
              let is : found id ≡ run_after (id - 131072) cuboids = grind (arith, nat_tests, le, least) in
              let q : ℕ = (id - 131072) / 16 in
              let m : ℕ = (id - 131072) % 16 in
              let parts : 16 * q + m ≡ id - 131072 = div-add-mod (id - 131072) 16 in
              asks_both (range_with_len 65537 (length (map (λ (l : List LineOrder). length l) batches))) _ id
              (inr (asks_run cuboids q m id (omega (arith, parts, least)) (ap is_some (sym is) ∙ some)))

module _ (c : Content) (w : Warehouse) (represents : Represents c w) where
  abbrev IsThere : ℕ → Type 0
  IsThere id = IsTrue (is_some (bytes_of c id))

  fifth_there : (layout : Layout) → w.layout ≡ layout
      → All IsThere (range_with_len 5 (dimension_object_count layout - 4))
  fifth_there First e = All-nil IsThere
  fifth_there Second e =
      All-cons IsThere 5 []
      (ap is_some (represents.objects 5 ∙ ap (λ (l : Layout). modes_object l (ship_modes_of w)) e)) (All-nil IsThere)

  in_two : (layout : Layout) → dimension_ids layout
      ≡ (1 ∷ 2 ∷ 3 ∷ 4 ∷ []) ++ range_with_len 5 (dimension_object_count layout - 4)
  in_two First = refl
  in_two Second = refl

  dimensions : All IsThere (dimension_ids w.layout)
  dimensions =
      subst (λ (l : List ℕ). All IsThere l) (sym (in_two w.layout))
      (All-append IsThere (1 ∷ 2 ∷ 3 ∷ 4 ∷ []) (range_with_len 5 (dimension_object_count w.layout - 4))
      (All-cons IsThere 1 (2 ∷ 3 ∷ 4 ∷ []) (ap is_some (represents.objects 1))
      (All-cons IsThere 2 (3 ∷ 4 ∷ []) (ap is_some (represents.objects 2))
      (All-cons IsThere 3 (4 ∷ []) (ap is_some (represents.objects 3))
      (All-cons IsThere 4 [] (ap is_some (represents.objects 4)) (All-nil IsThere)))))
      (fifth_there w.layout refl))

  four_dimensions : (layout : Layout) → 4 ≤ dimension_object_count layout
  four_dimensions First = omega arith
  four_dimensions Second = omega arith

  five_dimensions : (layout : Layout) (modes : List (List ℕ)) → is_some (modes_object layout modes) ≡ true
      → 5 ≤ dimension_object_count layout
  five_dimensions First modes some = absurd (cc some)
  five_dimensions Second modes some = omega arith

  segments : All IsThere (range_with_len 65537 (length (map length w.batches)))
  segments = all_range IsThere 65537 (length (map length w.batches)) (λ k lt.
      let within : k < length w.batches = omega (arith, lt, length-map w.batches length) in
      let got = get_within w.batches k within in
      ap is_some (represents.objects (65537 + k)
      ∙ object_batch w k (omega (arith, within, few_batches w.rows w.batches represents.batches))
      ∙ ap (option_map (segment_of (k + 1))) got.1))

  runs : All IsThere (flat_map run_ids (map said_of w.cuboids))
  runs = all_flat IsThere run_ids (map said_of w.cuboids) (λ k said within.
      let inside : k < length w.cuboids = omega (arith, within, length-map w.cuboids said_of) in
      let got = get_within w.cuboids k inside in
      let entry = get_or-map said_of w.cuboids k got.0 said inside in
      let proper = represents.root.proper.each k said within in
      let few : length (get_or w.cuboids k got.0).runs ≤ 8 =
      omega (arith, proper.most_runs, ap (λ (s : StoredCuboid). s.runs) entry) in
      subst (λ (s : StoredCuboid). All IsThere (run_ids s)) (sym entry)
      (all_range IsThere (run_id (index_of (get_or w.cuboids k got.0).view) 0) (length (get_or w.cuboids k got.0).runs)
      (λ r lt.
      let run = get_within (get_or w.cuboids k got.0).runs r lt in
      let id : run_id (index_of (get_or w.cuboids k got.0).view) 0 + r
      ≡ run_id (index_of (get_or w.cuboids k got.0).view) r = omega arith in
      ap (λ (n : ℕ). is_some (bytes_of c n)) id
      ∙ ap is_some (represents.objects (run_id (index_of (get_or w.cuboids k got.0).view) r)
      ∙ object_run w k r got.0 represents.root.proper.ascending inside (omega (arith, lt, few))
      ∙ ap (option_map (run_bytes (get_or w.cuboids k got.0))) run.1))))

  each_there : All IsThere (object_ids (root_of w))
  each_there =
      All-append IsThere (dimension_ids w.layout)
      (range_with_len 65537 (length (map length w.batches)) ++ flat_map run_ids (map said_of w.cuboids)) dimensions
      (All-append IsThere (range_with_len 65537 (length (map length w.batches)))
      (flat_map run_ids (map said_of w.cuboids)) segments runs)

  few_there : length c.objects ≤ length (object_ids (root_of w))
  few_there =
      let most = length-le_from_is_member nat_eq_laws (map (λ (o : ℕ × List ℕ). o.0) c.objects)
      (object_ids (root_of w)) (once_distinct c.objects represents.once) (λ id there.
      asked_for (dimension_of w.rows Customer) (dimension_of w.rows Supplier) (dimension_of w.rows Part)
      (dimension_of w.rows Date) (modes_object w.layout (ship_modes_of w)) segment_of w.batches w.cuboids
      (dimension_object_count w.layout) (four_dimensions w.layout) (five_dimensions w.layout (ship_modes_of w)) id
      (ap is_some (sym (represents.objects id)) ∙ sym (looked_up c.objects id) ∙ there)) in
      omega (arith, most, length-map c.objects (λ (o : ℕ × List ℕ). o.0))

  pub has_objects : HasItsObjects c (root_of w)
  has_objects = record { each = each_there; few = few_there }

  -- they are far fewer than a store takes
  few_runs : (cuboids : List StoredCuboid) → All (λ cuboid. cuboid.runs ≤ 8) cuboids
      → length (flat_map run_ids cuboids) ≤ 8 * length cuboids
  few_runs [] all = omega arith
  few_runs (cuboid ∷ cuboids) all =
      let rest = few_runs cuboids (All-tail (λ one. one.runs ≤ 8) cuboid cuboids all) in
      let own = All-head (λ one. one.runs ≤ 8) cuboid cuboids all in
      omega (
        arith,
        rest,
        own,
        length-append (run_ids cuboid) (flat_map run_ids cuboids),
        length-range_with_len (run_id cuboid.view 0) cuboid.runs,
      )

  few_dimensions : (layout : Layout) → dimension_object_count layout ≤ 5
  few_dimensions First = omega arith
  few_dimensions Second = omega arith

  pub few_objects : length c.objects ≤ 4229
  few_objects =
      let runs_few =
      few_runs (map said_of w.cuboids) (λ k d within. (represents.root.proper.each k d within).most_runs) in
      omega (
        arith,
        few_there,
        few_dimensions w.layout,
        length-range_with_len 1 (dimension_object_count w.layout),
        length-append (dimension_ids w.layout)
            (range_with_len 65537 (length (map length w.batches)) ++ flat_map run_ids (map said_of w.cuboids)),
        length-append (range_with_len 65537 (length (map length w.batches))) (flat_map run_ids (map said_of w.cuboids)),
        length-range_with_len 65537 (length (map length w.batches)),
        runs_few,
        represents.root.proper.most_batches,
        represents.root.proper.most_cuboids,
      )
