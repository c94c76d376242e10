-- The cuboids of some views, as objects and in the root.
use Rattle.std.proofs.Common.{◌≡◌, ◌≢◌, ◌⊎◌, inl, inr, ℕ, zero, suc, ◌+◌, ◌-◌, ◌*◌, ◌/◌, ◌%◌, ◌<◌, ◌≤◌, ◌==◌, nat_eq}
use Rattle.std.proofs.Common.{nat_lt, if◌then◌else◌, cond, Bool, true, false, ◌&&◌, ◌||◌, not, Option, Some, None, List}
use Rattle.std.proofs.Common.{[], ◌∷◌, ◌++◌, map, length, get_or, slice_get, All, refl, sym, ◌∙◌, ap, subst, arith}
use Rattle.std.proofs.Common.{append-nil}
use Rattle.std.specs.List.{AllPairs, filter, find, flat_map, range_with_len}
use Rattle.std.specs.Option.{option_map}
use Rattle.std.proofs.Math.Nat.{div-add-mod, mod-lt}
use Rattle.std.proofs.lemmas.Bool.{cases_lt}
use Rattle.std.proofs.lemmas.Bool.Decides.{Decides-eqb, nat_tests}
use Rattle.std.proofs.lemmas.List.{get_or-map, length-map, map-append}
use Rattle.std.proofs.lemmas.List.Elements.{All-cons, All-filter, All-head, All-map, All-nil, All-tail, filter-append}
use Rattle.std.proofs.lemmas.List.Folds.{flat_map-map}
use Rattle.std.proofs.lemmas.List.FromFn.{get_or-range_with_len, length-range_with_len}
use Rattle.std.proofs.lemmas.List.Kept.{AllPairs-filter}
use Rattle.std.proofs.lemmas.Map.Made.{IsDistinct-from_AllPairs, length-le_from_is_member}
use Rattle.std.proofs.lemmas.Option.{slice_get_past}
use Rattle.cube_model.specs.declared.attr.Axis.TheVariants.{Customer, Supplier, Part, Date}
use Rattle.object_store.specs.Content.{Content}
use Rattle.object_store.specs.Commit.{committed, without}
use Rattle.object_store.proofs.CallerLemmas.{bytes_after, layout_after, once_after, root_after}
use Rattle.object_store.proofs.Lists.{AllPairs-mapped}
use Rattle.column_segment.specs.Segment.{segment_of}
use Rattle.lattice.specs.declared.view.View.{View}
use Rattle.lattice.specs.Views.{index_of, lattice}
use Rattle.warehouse_root.specs.declared.cuboid.StoredCuboid.{StoredCuboid}
use Rattle.warehouse_root.specs.declared.layout.Layout.{Layout}
use Rattle.warehouse_root.specs.declared.layout.Layout.TheVariants.{First, Second}
use Rattle.warehouse_root.specs.Layouts.{has_modes, layout_number, view_count}
use Rattle.warehouse_root.specs.Limits.{most_cuboids}
use Rattle.warehouse_root.specs.Objects.{run_id, run_ids}
use Rattle.warehouse_root.specs.Root as roots
use Rattle.warehouse_root.specs.Root.{ViewsAscend, IsProperCuboid}
use Rattle.warehouse_objects.specs.Warehouse.{Cuboid, Warehouse, cuboid_at, dropped_ids, views_in_order, is_among}
use Rattle.warehouse_objects.specs.Warehouse.{kept_of}
use Rattle.warehouse_objects.specs.Warehouse.{ship_modes_of, with_views}
use Rattle.warehouse_objects.specs.Represents.{HoldsGroupings, Represents, dimension_of, numbers_among, object_of}
use Rattle.warehouse_objects.specs.Represents.{root_of, run_after, run_bytes, run_in, said_below, said_of, said_or_new}
use Rattle.warehouse_objects.specs.Represents.{modes_object, said_with}
use Rattle.warehouse_objects.proofs.Asked.{asks, asks_range, nat_eq_laws}
use Rattle.warehouse_objects.proofs.Batches.{AreProperCuboids, root_proper}
use Rattle.warehouse_objects.proofs.Contents.{objects_high, objects_low}
use Rattle.warehouse_objects.proofs.Kept.{without_none, without_range}

-- ---- lists that are filtered

map-filter : {A B : Type 0} (p : B → Bool) (f : A → B) (xs : List A)
    → map f (filter (λ x. p (f x)) xs) ≡ filter p (map f xs)
map-filter p f [] = refl
map-filter {A = A} {B = B} p f (x ∷ xs) =
    (elim (p (f x)) as (λ b. map f (cond b (x ∷ filter (λ (y : A). p (f y)) xs) (filter (λ (y : A). p (f y)) xs))
    ≡ cond b (f x ∷ filter p (map f xs)) (filter p (map f xs))) [
      | true ↦ ap (λ (l : List B). f x ∷ l) (map-filter p f xs)
      | false ↦ map-filter p f xs
    ])

all_pass : (p : ℕ → Bool) (xs : List ℕ) → All (λ x. p x ≡ true) (filter p xs)
all_pass p [] = All-nil (λ x. p x ≡ true)
all_pass p (x ∷ xs) =
    (elim (p x) as (λ b. p x ≡ b → All (λ y. p y ≡ true) (cond b (x ∷ filter p xs) (filter p xs))) [
      | true ↦ λ e. All-cons (λ y. p y ≡ true) x (filter p xs) e (all_pass p xs)
      | false ↦ λ e. all_pass p xs
    ]) refl

-- ---- which numbers are among others

and_none : (b : Bool) → false ≡ (b && false)
and_none true = refl
and_none false = refl

asked_filter : (p : ℕ → Bool) (xs : List ℕ) (q : ℕ) → asks (filter p xs) q ≡ (p q && asks xs q)
asked_filter p [] q = and_none (p q)
asked_filter p (x ∷ xs) q = by (asked_filter p xs q) (nat_eq q x) refl
  where
    by : asks (filter p xs) q ≡ (p q && asks xs q) → (t : Bool) → nat_eq q x ≡ t
        → asks (cond (p x) (x ∷ filter p xs) (filter p xs)) q ≡ (p q && (nat_eq q x || asks xs q))
    by rest true e =
        let same : x ≡ q = grind (arith, nat_tests, e) in
        ap (λ (n : ℕ). asks (cond (p n) (x ∷ filter p xs) (filter p xs)) q) same
        ∙ ((elim (p q) as
        (λ b. p q ≡ b → asks (cond b (x ∷ filter p xs) (filter p xs)) q ≡ (b && (nat_eq q x || asks xs q))) [
          | true ↦ λ _. (ap (λ (t : Bool). t || asks (filter p xs) q) e ∙ sym (ap (λ (t : Bool). t || asks xs q) e))
          | false ↦ λ none. (rest ∙ ap (λ (b : Bool). b && asks xs q) none)
        ]) refl)
    by rest false e =
        (elim (p x) as (λ b. asks (cond b (x ∷ filter p xs) (filter p xs)) q ≡ asks (filter p xs) q) [
          | true ↦ ap (λ (t : Bool). t || asks (filter p xs) q) e
          | false ↦ refl
        ])
        ∙ rest ∙ ap (λ (t : Bool). p q && (t || asks xs q)) (sym e)

turned : (n q : ℕ) → (n == q) ≡ nat_eq q n
turned n q = grind (arith, nat_tests)

asked_views : (views : List View) (q : ℕ) → is_among views q ≡ asks (map index_of views) q
asked_views [] q = refl
asked_views (v ∷ vs) q =
    ap (λ (b : Bool). b || is_among vs q) (turned (index_of v) q)
    ∙ ap (λ (b : Bool). nat_eq q (index_of v) || b) (asked_views vs q)

passed : (P : ℕ → Type 0) (xs : List ℕ) (q : ℕ) → All P xs → asks xs q ≡ true → P q
passed P [] q all there = absurd (cc there)
passed P (x ∷ xs) q all there =
    (elim (nat_eq q x) as (λ b. nat_eq q x ≡ b → (b || asks xs q) ≡ true → P q) [
      | true ↦ λ e _. (let same : x ≡ q = grind (arith, nat_tests, e) in subst P same (All-head P x xs all))
      | false ↦ λ e rest. passed P xs q (All-tail P x xs all) rest
    ]) refl there

-- ---- the numbers of views

range_up : (a n : ℕ) → AllPairs (λ (one : ℕ) (other : ℕ). one < other) (range_with_len a n)
range_up a n i j d before within =
    let low : j < n = omega (arith, within, length-range_with_len a n) in
    omega (arith, before, get_or-range_with_len a n i d (omega (arith, before, low)), get_or-range_with_len a n j d low)

range_low : (n : ℕ) → All (λ x. x < n) (range_with_len 0 n)
range_low n k d within =
    let low : k < n = omega (arith, within, length-range_with_len 0 n) in
    omega (arith, low, get_or-range_with_len 0 n k d low)

module _ (views : List View) (count : ℕ) where
  pub numbers_up : AllPairs (λ (one : ℕ) (other : ℕ). one < other) (numbers_among views count)
  unfolding numbers_among
  numbers_up = AllPairs-filter (λ (one : ℕ) (other : ℕ). one < other) (is_among views) (range_with_len 0 count)
      (range_up 0 count)

  pub numbers_low : All (λ number. number < count) (numbers_among views count)
  unfolding numbers_among
  numbers_low = All-filter (is_among views) (λ number. number < count) (range_with_len 0 count) (range_low count)

  numbers_there : All (λ number. is_among views number ≡ true) (numbers_among views count)
  unfolding numbers_among
  numbers_there = all_pass (is_among views) (range_with_len 0 count)

  pub numbers_few : length (numbers_among views count) ≤ length views
  numbers_few =
      let most = length-le_from_is_member nat_eq_laws (numbers_among views count) (map index_of views)
      (IsDistinct-from_AllPairs Decides-eqb (numbers_among views count)
      (λ i j d before within same. let less = numbers_up i j d before within in omega (arith, less, same)))
      (λ q there. sym (asked_views views q)
      ∙ passed (λ number. is_among views number ≡ true) (numbers_among views count) q numbers_there there) in
      omega (arith, most, length-map views index_of)

  asked_among : (q : ℕ) → asks (numbers_among views count) q ≡ (is_among views q && asks (range_with_len 0 count) q)
  unfolding numbers_among
  asked_among q = asked_filter (is_among views) (range_with_len 0 count) q

-- one number more
range_pushed : (from count : ℕ) → range_with_len from (suc count) ≡ range_with_len from count ++ (from + count) ∷ []
range_pushed from zero = let same : from ≡ from + 0 = omega arith in ap (λ (n : ℕ). n ∷ []) same
range_pushed from (suc count) =
    let next : from + 1 + count ≡ from + suc count = omega arith in
    ap (λ (rest : List ℕ). from ∷ rest)
    (range_pushed (from + 1) count ∙ ap (λ (last : ℕ). range_with_len (from + 1) count ++ last ∷ []) next)

pushed : (views : List View) (count : ℕ) → filter (is_among views) (range_with_len 0 (count + 1))
    ≡ filter (is_among views) (range_with_len 0 count) ++ cond (is_among views count) (count ∷ []) []
pushed views count =
    let next : count + 1 ≡ suc count = omega arith in
    let last : 0 + count ≡ count = omega arith in
    ap (λ (n : ℕ). filter (is_among views) (range_with_len 0 n)) next
    ∙ ap (filter (is_among views)) (range_pushed 0 count ∙ ap (λ (n : ℕ). range_with_len 0 count ++ n ∷ []) last)
    ∙ filter-append (is_among views) (range_with_len 0 count) (count ∷ [])

pub numbers_more : (views : List View) (count : ℕ) → is_among views count ≡ true
    → numbers_among views (count + 1) ≡ numbers_among views count ++ count ∷ []
unfolding numbers_among
numbers_more views count is = pushed views count
    ∙ ap (λ (b : Bool). filter (is_among views) (range_with_len 0 count) ++ cond b (count ∷ []) []) is

pub numbers_same : (views : List View) (count : ℕ) → is_among views count ≡ false
    → numbers_among views (count + 1) ≡ numbers_among views count
unfolding numbers_among
numbers_same views count is =
    pushed views count ∙ ap (λ (b : Bool). filter (is_among views) (range_with_len 0 count) ++ cond b (count ∷ []) [])
    is ∙ append-nil (filter (is_among views) (range_with_len 0 count))

numbers_by : (views vs : List View) (numbers : List ℕ) → map index_of vs ≡ numbers
    → map index_of (filter (λ view. is_among views (index_of view)) vs) ≡ filter (is_among views) numbers
numbers_by views vs numbers same = map-filter (is_among views) index_of vs ∙ ap (filter (is_among views)) same

all_numbers : (layout : Layout) → map index_of (lattice (has_modes layout)) ≡ range_with_len 0 (view_count layout)
all_numbers First = refl
all_numbers Second = refl

numbers_in : (layout : Layout) (views : List View)
    → map index_of (filter (λ view. is_among views (index_of view)) (lattice (has_modes layout)))
    ≡ numbers_among views (view_count layout)
unfolding numbers_among
numbers_in layout views =
    numbers_by views (lattice (has_modes layout)) (range_with_len 0 (view_count layout)) (all_numbers layout)

pub numbers_are : (layout : Layout) (views : List View)
    → map index_of (views_in_order layout views) ≡ numbers_among views (view_count layout)
unfolding views_in_order
numbers_are layout views = numbers_in layout views

among_in_order : (layout : Layout) (views : List View) (q : ℕ)
    → is_among (views_in_order layout views) q ≡ (is_among views q && asks (range_with_len 0 (view_count layout)) q)
among_in_order layout views q =
    asked_views (views_in_order layout views) q ∙ ap (λ (l : List ℕ). asks l q) (numbers_are layout views)
    ∙ asked_among views (view_count layout) q

-- ---- what a root says of them

pub found_said : (cuboids : List StoredCuboid) (number : ℕ) (cuboid : StoredCuboid)
    → find (λ (c : StoredCuboid). c.view == number) cuboids ≡ Some cuboid → cuboid.view ≡ number
found_said [] number cuboid is = absurd (cc is)
found_said (x ∷ xs) number cuboid is =
    (elim (x.view == number) as
    (λ t. (x.view == number) ≡ t → (if t then Some x else find (λ (c : StoredCuboid). c.view == number) xs)
    ≡ Some cuboid → cuboid.view ≡ number) [
      | true ↦ λ e s. (let same : x ≡ cuboid = cc s in let own : x.view ≡ number = grind (arith, nat_tests, e) in
          ap (λ (c : StoredCuboid). c.view) (sym same) ∙ own)
      | false ↦ λ e s. found_said xs number cuboid s
    ]) refl is

found_of : (P : StoredCuboid → Type 0) (cuboids : List StoredCuboid) (number : ℕ) (cuboid : StoredCuboid)
    → All P cuboids → find (λ (c : StoredCuboid). c.view == number) cuboids ≡ Some cuboid → P cuboid
found_of P [] number cuboid all is = absurd (cc is)
found_of P (x ∷ xs) number cuboid all is =
    (elim (x.view == number) as
    (λ t. (if t then Some x else find (λ (c : StoredCuboid). c.view == number) xs) ≡ Some cuboid → P cuboid) [
      | true ↦ λ s. (let same : x ≡ cuboid = cc s in subst P same (All-head P x xs all))
      | false ↦ λ s. found_of P xs number cuboid (All-tail P x xs all) s
    ]) is

module _ (cuboids : List StoredCuboid) (number : ℕ) where
  abbrev found : Option StoredCuboid
  found = find (λ (c : StoredCuboid). c.view == number) cuboids

  said_view : (said_or_new number found).view ≡ number
  said_view = by found refl
    where
      by : (o : Option StoredCuboid) → found ≡ o → (said_or_new number o).view ≡ number
      by None e = refl
      by (Some cuboid) e = found_said cuboids number cuboid e

  said_proper : (layout : Layout) (batches : ℕ) → number < view_count layout
      → All (IsProperCuboid layout batches) cuboids
      → IsProperCuboid layout batches (said_or_new number found)
  said_proper layout batches low all = by found refl
    where
      by : (o : Option StoredCuboid) → found ≡ o → IsProperCuboid layout batches (said_or_new number o)
      by None e =
          record {
            view = low;
            mark = omega arith;
            no_run = (λ none. refl, λ none. refl);
            most_runs = omega arith;
            most_cells = omega arith;
          }
      by (Some cuboid) e = found_of (IsProperCuboid layout batches) cuboids number cuboid all e

module _ (views : List View) (cuboids : List StoredCuboid) where
  abbrev said_at : ℕ → StoredCuboid
  said_at number = said_or_new number (find (λ (c : StoredCuboid). c.view == number) cuboids)

  module _ (layout : Layout) where
    abbrev numbers : List ℕ
    numbers = numbers_among views (view_count layout)

    pub said_few : length views ≤ most_cuboids → length (said_with layout views cuboids) ≤ most_cuboids
    said_few few = omega (arith, few, numbers_few views (view_count layout), length-map numbers said_at)

    pub said_ascend : ViewsAscend (said_with layout views cuboids)
    said_ascend =
        AllPairs-mapped (λ (one : StoredCuboid) (other : StoredCuboid). one.view < other.view) said_at numbers
        (λ i j d before within.
        let up = numbers_up views (view_count layout) i j d before within in
        omega (arith, up, said_view cuboids (get_or numbers i d), said_view cuboids (get_or numbers j d)))

    pub said_each : (batches : ℕ) → All (IsProperCuboid layout batches) cuboids
        → All (IsProperCuboid layout batches) (said_with layout views cuboids)
    said_each batches all =
        All-map (IsProperCuboid layout batches) said_at numbers (λ k d within.
        said_proper cuboids (get_or numbers k d) layout batches (numbers_low views (view_count layout) k d within) all)

-- ---- stored cuboids, found by their views

found_view : (cuboids : List Cuboid) (v : ℕ) (c : Cuboid) → cuboid_at v cuboids ≡ Some c → index_of c.view ≡ v
found_view [] v c is = absurd (cc is)
found_view (x ∷ xs) v c is =
    (elim (index_of x.view == v) as (λ t. (index_of x.view == v) ≡ t → (if t then Some x else cuboid_at v xs) ≡ Some c
    → index_of c.view ≡ v) [
      | true ↦ λ e s. (let same : x ≡ c = cc s in let own : index_of x.view ≡ v = grind (arith, nat_tests, e) in
          ap (λ (y : Cuboid). index_of y.view) (sym same) ∙ own)
      | false ↦ λ e s. found_view xs v c s
    ]) refl is

found_in : (P : Cuboid → Type 0) (cuboids : List Cuboid) (v : ℕ) (c : Cuboid) → All P cuboids
    → cuboid_at v cuboids ≡ Some c → P c
found_in P [] v c all is = absurd (cc is)
found_in P (x ∷ xs) v c all is =
    (elim (index_of x.view == v) as (λ t. (if t then Some x else cuboid_at v xs) ≡ Some c → P c) [
      | true ↦ λ s. (let same : x ≡ c = cc s in subst P same (All-head P x xs all))
      | false ↦ λ s. found_in P xs v c (All-tail P x xs all) s
    ]) is

-- the root says it of the cuboid that is found
pub find_said : (cuboids : List Cuboid) (v : ℕ) → find (λ (c : StoredCuboid). c.view == v) (map said_of cuboids)
    ≡ option_map said_of (cuboid_at v cuboids)
find_said [] v = refl
find_said (c ∷ cs) v =
    (elim (index_of c.view == v) as
    (λ t. (if t then Some (said_of c) else find (λ (s : StoredCuboid). s.view == v) (map said_of cs))
    ≡ option_map said_of (if t then Some c else cuboid_at v cs)) [
      | true ↦ refl
      | false ↦ find_said cs v
    ])

said_kept : (view : View) (o : Option Cuboid)
    → said_of (kept_of view o) ≡ said_or_new (index_of view) (option_map said_of o)
said_kept view None = refl
said_kept view (Some c) = refl

-- ---- what a root says of one number more

module _ (views : List View) (cuboids : List StoredCuboid) (count : ℕ) where
  pub said_none : said_below 0 views cuboids ≡ []
  unfolding numbers_among
  said_none = refl

  pub said_more : is_among views count ≡ true → said_below (count + 1) views cuboids ≡ said_below count views cuboids
      ++ said_at views cuboids count ∷ []
  said_more is = ap (map (said_at views cuboids)) (numbers_more views count is)
      ∙ map-append (said_at views cuboids) (numbers_among views count) (count ∷ [])

  pub said_same : is_among views count ≡ false → said_below (count + 1) views cuboids ≡ said_below count views cuboids
  said_same is = ap (map (said_at views cuboids)) (numbers_same views count is)

-- the cuboid of a view then
abbrev kept_at : List Cuboid → View → Cuboid
kept_at cuboids view = kept_of view (cuboid_at (index_of view) cuboids)

map_twice : {A B C : Type 0} (f : A → B) (g : B → C) (h : A → C) (xs : List A) → ((x : A) → g (f x) ≡ h x)
    → map g (map f xs) ≡ map h xs
map_twice f g h [] same = refl
map_twice f g h (x ∷ xs) same = λ i. same x i ∷ map_twice f g h xs same i

-- what the root says of the cuboids of some views
said_of_views : (layout : Layout) (views : List View) (cuboids : List Cuboid)
    → map said_of (map (kept_at cuboids) (views_in_order layout views)) ≡ said_with layout views (map said_of cuboids)
said_of_views layout views cuboids =
    map_twice (kept_at cuboids) said_of (λ view. said_at views (map said_of cuboids) (index_of view))
    (views_in_order layout views)
    (λ view. said_kept view (cuboid_at (index_of view) cuboids)
    ∙ ap (said_or_new (index_of view)) (sym (find_said cuboids (index_of view))))
    ∙ sym (map_twice index_of (said_at views (map said_of cuboids))
    (λ view. said_at views (map said_of cuboids) (index_of view)) (views_in_order layout views) (λ view. refl))
    ∙ ap (map (said_at views (map said_of cuboids))) (numbers_are layout views)

-- the ids of the runs that are dropped
pub dropped_are : (w : Warehouse) (views : List View)
    → flat_map run_ids (filter (λ cuboid. not (is_among views cuboid.view)) (map said_of w.cuboids))
    ≡ dropped_ids w views
dropped_are w views =
    ap (flat_map run_ids)
    (sym (map-filter (λ (cuboid : StoredCuboid). not (is_among views cuboid.view)) said_of w.cuboids))
    ∙ flat_map-map run_ids said_of (filter (λ (cuboid : Cuboid). not (is_among views (index_of cuboid.view))) w.cuboids)

-- ---- its objects

without_both : (a b : List ℕ) (id : ℕ) (was : Option (List ℕ))
    → without (a ++ b) id was ≡ without b id (without a id was)
without_both [] b id was = refl
without_both (x ∷ a) b id was = without_both a b id (if x == id then None else was)

abbrev ids_of : Cuboid → List ℕ
ids_of cuboid = range_with_len (run_id (index_of cuboid.view) 0) (length cuboid.runs)

module _ (views : List View) where
  abbrev goes_away : Cuboid → Bool
  goes_away cuboid = not (is_among views (index_of cuboid.view))

  abbrev dropped : List Cuboid → List ℕ
  dropped cuboids = flat_map ids_of (filter goes_away cuboids)

  -- of one more
  abbrev dropped_by : Bool → Cuboid → List Cuboid → List ℕ
  dropped_by among cuboid cuboids =
      flat_map ids_of (cond (not among) (cuboid ∷ filter goes_away cuboids) (filter goes_away cuboids))

  module _ (id q m : ℕ) (parts : 16 * q + m ≡ id - 131072) (low : m < 16) (from : 131072 ≤ id) where
    -- the objects of a view that is among them are not dropped
    stays : (cuboids : List Cuboid) (was : Option (List ℕ)) → is_among views q ≡ true
        → All (λ c. length c.runs ≤ 8) cuboids → without (dropped cuboids) id was ≡ was
    stays [] was is few = refl
    stays (c ∷ cs) was is few =
        (elim (is_among views (index_of c.view)) as (λ b. is_among views (index_of c.view) ≡ b
        → without (dropped_by b c cs) id was ≡ was) [
          | true ↦ λ e. stays cs was is (All-tail (λ (d : Cuboid). length d.runs ≤ 8) c cs few)
          | false ↦ λ e.
              (let other : q ≢ index_of c.view = λ x. true_false (sym is ∙ ap (is_among views) x ∙ e) in
              let small : length c.runs ≤ 8 = All-head (λ (d : Cuboid). length d.runs ≤ 8) c cs few in
              let none : without (ids_of c) id was ≡ was =
              without_range (run_id (index_of c.view) 0) (length c.runs) id was
              ∙ outside (length c.runs) (index_of c.view) was other small in
              without_both (ids_of c) (dropped cs) id was ∙ ap (without (dropped cs) id) none
              ∙ stays cs was is (All-tail (λ (d : Cuboid). length d.runs ≤ 8) c cs few))
        ]) refl
      where
        true_false : true ≡ false → ⊥
        true_false e = absurd (cc e)

        outside : (n v : ℕ) (o : Option (List ℕ)) → q ≢ v → n ≤ 8
            → (if nat_lt id (run_id v 0) then o else (if nat_lt id (run_id v 0 + n) then None else o)) ≡ o
        outside n v o ne small = grind (arith, nat_tests, ne, parts, from, low, small)

    -- of another view none is left
    goes : (cuboids : List Cuboid) → is_among views q ≡ false
        → without (dropped cuboids) id (run_in (cuboid_at q cuboids) m) ≡ None
    goes [] gone = refl
    goes (c ∷ cs) gone =
        (elim (index_of c.view == q) as (λ t. (index_of c.view == q) ≡ t
        → without (dropped (c ∷ cs)) id (run_in (if t then Some c else cuboid_at q cs) m) ≡ None) [
          | true ↦ λ e.
              (let own : index_of c.view ≡ q = grind (arith, nat_tests, e) in
              let out : is_among views (index_of c.view) ≡ false = ap (is_among views) own ∙ gone in
              let range : without (ids_of c) id (option_map (run_bytes c) (slice_get c.runs m)) ≡ None =
              without_range (run_id (index_of c.view) 0) (length c.runs) id
              (option_map (run_bytes c) (slice_get c.runs m)) ∙ inside (index_of c.view) own in
              ap (λ (b : Bool). without (dropped_by b c cs) id (option_map (run_bytes c) (slice_get c.runs m))) out
              ∙ without_both (ids_of c) (dropped cs) id (option_map (run_bytes c) (slice_get c.runs m))
              ∙ ap (without (dropped cs) id) range ∙ without_none (dropped cs) id)
          | false ↦ λ e.
              (elim (is_among views (index_of c.view)) as
              (λ b. without (dropped_by b c cs) id (run_in (cuboid_at q cs) m) ≡ None) [
                | true ↦ goes cs gone
                | false ↦ (without_both (ids_of c) (dropped cs) id (run_in (cuboid_at q cs) m)
                    ∙ rest (run_in (cuboid_at q cs) m) (goes cs gone))
              ])
        ]) refl
      where
        inside : (v : ℕ) → v ≡ q
            → (if nat_lt id (run_id v 0) then option_map (run_bytes c) (slice_get c.runs m) else
            (if nat_lt id (run_id v 0 + length c.runs) then None else option_map (run_bytes c) (slice_get c.runs m)))
            ≡ None
        inside v own =
            let low_id : nat_lt id (run_id v 0) ≡ false = grind (arith, nat_tests, own, parts, from, low) in
            let high : nat_lt id (run_id v 0 + length c.runs) ≡ nat_lt m (length c.runs) =
            grind (arith, nat_tests, own, parts, from, low) in
            rw (low_id, high)
            ((elim (nat_lt m (length c.runs)) as (λ b. nat_lt m (length c.runs) ≡ b
            → (if b then None else option_map (run_bytes c) (slice_get c.runs m)) ≡ None) [
              | true ↦ λ e. refl
              | false ↦ λ e. ap (option_map (run_bytes c)) (slice_get_past c.runs m (grind (arith, nat_tests, e)))
            ]) refl)

        rest : (o : Option (List ℕ)) → without (dropped cs) id o ≡ None
            → without (dropped cs) id (without (ids_of c) id o) ≡ None
        rest o left =
            ap (without (dropped cs) id) (without_range (run_id (index_of c.view) 0) (length c.runs) id o)
            ∙ (elim (nat_lt id (run_id (index_of c.view) 0)) as
            (λ b. without (dropped cs) id
            (if b then o else (if nat_lt id (run_id (index_of c.view) 0 + length c.runs) then None else o)) ≡ None) [
              | true ↦ left
              | false ↦ (elim (nat_lt id (run_id (index_of c.view) 0 + length c.runs)) as
                  (λ b. without (dropped cs) id (if b then None else o) ≡ None) [
                    | true ↦ without_none (dropped cs) id
                    | false ↦ left
                  ])
            ])

-- a run of the cuboid of one of some views
at_views : (cuboids : List Cuboid) (q m : ℕ) (vs : List View) → run_in (cuboid_at q (map (kept_at cuboids) vs)) m
    ≡ (if is_among vs q then run_in (cuboid_at q cuboids) m else None)
at_views cuboids q m [] = refl
at_views cuboids q m (v ∷ vs) =
    let own : index_of (kept_at cuboids v).view ≡ index_of v =
    kept_view (cuboid_at (index_of v) cuboids) (found_view cuboids (index_of v)) in
    ap (λ (n : ℕ). run_in (if n == q then Some (kept_at cuboids v) else cuboid_at q (map (kept_at cuboids) vs)) m) own
    ∙ ((elim (index_of v == q) as
    (λ t. (index_of v == q) ≡ t
    → run_in (if t then Some (kept_at cuboids v) else cuboid_at q (map (kept_at cuboids) vs)) m
    ≡ (if (t || is_among vs q) then run_in (cuboid_at q cuboids) m else None)) [
      | true ↦ λ e.
          (let same : index_of v ≡ q = grind (arith, nat_tests, e) in
          ap (λ (n : ℕ). run_in (Some (kept_of v (cuboid_at n cuboids))) m) same ∙ kept_run (cuboid_at q cuboids))
      | false ↦ λ e. at_views cuboids q m vs
    ]) refl)
  where
    kept_view : (o : Option Cuboid) → ((c : Cuboid) → o ≡ Some c → index_of c.view ≡ index_of v)
        → index_of (kept_of v o).view ≡ index_of v
    kept_view None f = refl
    kept_view (Some c) f = f c refl

    kept_run : (o : Option Cuboid) → run_in (Some (kept_of v o)) m ≡ run_in o m
    kept_run None = refl
    kept_run (Some c) = refl

-- no stored cuboid has a higher number
none_above : (cuboids : List Cuboid) (limit q : ℕ) → All (λ c. index_of c.view < limit) cuboids → limit ≤ q
    → cuboid_at q cuboids ≡ None
none_above [] limit q all above = refl
none_above (c ∷ cs) limit q all above =
    let own : index_of c.view < limit = All-head (λ (d : Cuboid). index_of d.view < limit) c cs all in
    let other : (index_of c.view == q) ≡ false = apart (index_of c.view) own in
    ap (λ (b : Bool). if b then Some c else cuboid_at q cs) other
    ∙ none_above cs limit q (All-tail (λ (d : Cuboid). index_of d.view < limit) c cs all) above
  where
    apart : (n : ℕ) → n < limit → (n == q) ≡ false
    apart n lt = grind (arith, nat_tests, lt, above)

-- views of a layout's lattice are found in it
either_way : (layout : Layout) (views : List View) (q : ℕ) (o : Option (List ℕ)) → (view_count layout ≤ q → o ≡ None)
    → (if is_among (views_in_order layout views) q then o else None) ≡ (if is_among views q then o else None)
either_way layout views q o high =
    ap (λ (b : Bool). if b then o else None) (among_in_order layout views q) ∙ by (cases_lt q (view_count layout))
  where
    none : (b : Bool) (x : Option (List ℕ)) → x ≡ None → (if b then x else None) ≡ None
    none true x e = e
    none false x e = refl

    all_of : (b : Bool) → (b && true) ≡ b
    all_of true = refl
    all_of false = refl

    by : (q < view_count layout) ⊎ (view_count layout ≤ q)
        → (if (is_among views q && asks (range_with_len 0 (view_count layout)) q) then o else None)
        ≡ (if is_among views q then o else None)
    by (inl lt) =
        ap (λ (t : Bool). if (is_among views q && t) then o else None)
        (asks_range 0 (view_count layout) q (omega arith) (omega (arith, lt)))
        ∙ ap (λ (t : Bool). if t then o else None) (all_of (is_among views q))
    by (inr le) = none (is_among views q && asks (range_with_len 0 (view_count layout)) q) o (high le)
        ∙ sym (none (is_among views q) o (high le))

chooses : (layout : Layout) (cuboids : List Cuboid) (views : List View) (id : ℕ)
    → All (λ c. length c.runs ≤ 8) cuboids → All (λ c. index_of c.view < view_count layout) cuboids → 131072 ≤ id
    → without (dropped views cuboids) id (run_after (id - 131072) cuboids)
    ≡ run_after (id - 131072) (map (kept_at cuboids) (views_in_order layout views))
chooses layout cuboids views id few views_low from =
    let q = (id - 131072) / 16 in
    let m = (id - 131072) % 16 in
    let parts : 16 * q + m ≡ id - 131072 = div-add-mod (id - 131072) 16 in
    let low : m < 16 = mod-lt (id - 131072) (omega arith) in
    ((elim (is_among views q) as
    (λ b. is_among views q ≡ b → without (dropped views cuboids) id (run_in (cuboid_at q cuboids) m)
    ≡ (if b then run_in (cuboid_at q cuboids) m else None)) [
      | true ↦ λ e. stays views id q m parts low from cuboids (run_in (cuboid_at q cuboids) m) e few
      | false ↦ λ e. goes views id q m parts low from cuboids e
    ]) refl)
    ∙ sym (either_way layout views q (run_in (cuboid_at q cuboids) m)
    (λ le. ap (λ (o : Option Cuboid). run_in o m) (none_above cuboids (view_count layout) q views_low le)))
    ∙ sym (at_views cuboids q m (views_in_order layout views))

not_dropped : (views : List View) (cuboids : List Cuboid) (id : ℕ) (was : Option (List ℕ)) → id < 131072
    → without (dropped views cuboids) id was ≡ was
not_dropped views [] id was lt = refl
not_dropped views (c ∷ cs) id was lt =
    (elim (is_among views (index_of c.view)) as (λ b. without (dropped_by views b c cs) id was ≡ was) [
      | true ↦ not_dropped views cs id was lt
      | false ↦ (without_both (ids_of c) (dropped views cs) id was
          ∙ ap (without (dropped views cs) id) (without_range (run_id (index_of c.view) 0) (length c.runs) id was
          ∙ before (index_of c.view) (length c.runs)) ∙ not_dropped views cs id was lt)
    ])
  where
    before : (v n : ℕ) → (if nat_lt id (run_id v 0) then was else (if nat_lt id (run_id v 0 + n) then None else was))
        ≡ was
    before v n = grind (arith, nat_tests, lt)

-- ---- the content then

module _ (c : Content) (w : Warehouse) (views : List View) (represents : Represents c w)
    (few : length views ≤ most_cuboids) where
  abbrev bytes : List ℕ
  bytes = roots.root_spelling (root_of (with_views w views))

  abbrev Proper : StoredCuboid → Type 0
  Proper = IsProperCuboid w.layout (length (map length w.batches))

  proper_each : All (λ cuboid. Proper (said_of cuboid)) w.cuboids
  proper_each = λ k d within.
      subst Proper (get_or-map said_of w.cuboids k d (said_of d) within)
      (represents.root.proper.each k (said_of d) (omega (arith, within, length-map w.cuboids said_of)))

  object_chosen : (id : ℕ) → without (dropped_ids w views) id (object_of w id) ≡ object_of (with_views w views) id
  object_chosen id = by (cases_lt id 131072)
    where
      by : (id < 131072) ⊎ (131072 ≤ id) → without (dropped_ids w views) id (object_of w id)
          ≡ object_of (with_views w views) id
      by (inl lt) = not_dropped views w.cuboids id (object_of w id) lt
          ∙ sym (objects_low (dimension_of w.rows Customer) (dimension_of w.rows Supplier) (dimension_of w.rows Part)
          (dimension_of w.rows Date) (modes_object w.layout (ship_modes_of w)) segment_of
          (λ place. run_after place w.cuboids)
          (λ place. run_after place (map (kept_at w.cuboids) (views_in_order w.layout views))) w.batches id
          (object_of w id)
          lt
          refl)
      by (inr le) =
          ap (without (dropped_ids w views) id)
          (objects_high (dimension_of w.rows Customer) (dimension_of w.rows Supplier) (dimension_of w.rows Part)
          (dimension_of w.rows Date) (modes_object w.layout (ship_modes_of w)) segment_of
          (λ place. run_after place w.cuboids) w.batches id le)
          ∙ chooses w.layout w.cuboids views id (λ k d within. (proper_each k d within).most_runs)
          (λ k d within. (proper_each k d within).view) le
          ∙ sym (objects_high (dimension_of w.rows Customer) (dimension_of w.rows Supplier) (dimension_of w.rows Part)
          (dimension_of w.rows Date) (modes_object w.layout (ship_modes_of w)) segment_of
          (λ place. run_after place (map (kept_at w.cuboids) (views_in_order w.layout views))) w.batches id le)

  proper_chosen : AreProperCuboids (with_views w views)
  proper_chosen =
      let same : map said_of (map (kept_at w.cuboids) (views_in_order w.layout views))
      ≡ said_with w.layout views (map said_of w.cuboids) =
      said_of_views w.layout views w.cuboids in record {
        most = subst (λ (l : List StoredCuboid). length l ≤ most_cuboids) (sym same)
            (said_few views (map said_of w.cuboids) w.layout few);
        each = subst (λ (l : List StoredCuboid). All Proper l) (sym same)
            (said_each views (map said_of w.cuboids) w.layout (length (map length w.batches))
            represents.root.proper.each);
        ascending = subst (λ (l : List StoredCuboid). ViewsAscend l) (sym same)
            (said_ascend views (map said_of w.cuboids) w.layout);
      }

  hold_chosen : All (HoldsGroupings (with_views w views)) (map (kept_at w.cuboids) (views_in_order w.layout views))
  hold_chosen = All-map (HoldsGroupings (with_views w views)) (kept_at w.cuboids) (views_in_order w.layout views)
      (λ k d within. holds (get_or (views_in_order w.layout views) k d))
    where
      still : (cuboid : Cuboid) → HoldsGroupings w cuboid → HoldsGroupings (with_views w views) cuboid
      still cuboid holds = record {
        laid = record { follow = holds.laid.follow; spans = holds.laid.spans; proper = holds.laid.proper };
        groupings = holds.groupings;
      }

      holds : (view : View) → HoldsGroupings (with_views w views) (kept_at w.cuboids view)
      holds view = by (cuboid_at (index_of view) w.cuboids) refl
        where
          by : (o : Option Cuboid) → cuboid_at (index_of view) w.cuboids ≡ o
              → HoldsGroupings (with_views w views) (kept_of view o)
          by None e = record {
            laid = record {
              follow = refl;
              spans = λ k d within. absurd (omega (arith, within));
              proper = λ k d within. absurd (omega (arith, within));
            };
            groupings = λ k d within. absurd (omega (arith, within));
          }
          by (Some cuboid) e =
              still cuboid (found_in (HoldsGroupings w) w.cuboids (index_of view) cuboid represents.cuboids e)

  pub represents_chosen : Represents (committed [] (dropped_ids w views) bytes (layout_number w.layout) c)
      (with_views w views)
  represents_chosen = record {
    objects = λ id. bytes_after [] (dropped_ids w views) bytes (layout_number w.layout) c id
        ∙ ap (without (dropped_ids w views) id) (represents.objects id) ∙ object_chosen id;
    once = once_after [] (dropped_ids w views) bytes (layout_number w.layout) c represents.once;
    layout = layout_after [] (dropped_ids w views) bytes (layout_number w.layout) c;
    root = record {
      spelled = root_after [] (dropped_ids w views) bytes (layout_number w.layout) c;
      proper = root_proper (with_views w views) represents.batches (omega arith) represents.root.proper.additions
          proper_chosen;
    };
    rows = represents.rows;
    batches = represents.batches;
    modes = represents.modes;
    cuboids = hold_chosen;
  }

-- the root of the warehouse with these views
pub root_viewed : (w : Warehouse) (views : List View)
    → root_of (with_views w views) ≡ roots.with_cuboids (said_with w.layout views (root_of w).cuboids) (root_of w)
root_viewed w views = λ i. record {
  layout = w.layout;
  batches = map length w.batches;
  target = 0;
  additions = w.additions;
  totals = (root_of w).totals;
  cuboids = said_of_views w.layout views w.cuboids i;
}
