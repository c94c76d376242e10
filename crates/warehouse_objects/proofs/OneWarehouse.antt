-- A content represents one warehouse.
use Rattle.std.proofs.Common.{◌≡◌, ◌<◌, ◌≤◌, ◌+◌, ◌-◌, ◌*◌, ◌/◌, ◌%◌, ◌==◌, ◌∙◌, zero, suc, sym, ap, refl, arith}
use Rattle.std.proofs.Common.{if◌then◌else◌, ℕ, Bool, true, false, List, [], ◌∷◌, map, length, get_or, slice_get}
use Rattle.std.proofs.Common.{All, Option, Some, subst}
use Rattle.std.specs.Option.{option_map}
use Rattle.std.proofs.Math.Nat.{div-add-mod, mod-lt}
use Rattle.std.proofs.lemmas.Bool.Decides.{nat_tests}
use Rattle.std.proofs.lemmas.List.{get_or-map, length-map}
use Rattle.std.proofs.lemmas.List.Elements.{All-head, All-tail}
use Rattle.std.proofs.lemmas.Option.{slice_get-get_or, slice_get_within}
use Rattle.cube_model.specs.declared.attr.Axis.TheVariants.{Customer, Supplier, Part, Date}
use Rattle.cube_model.specs.declared.rows.LineOrder.{LineOrder}
use Rattle.object_store.specs.Content.{Content}
use Rattle.column_segment.specs.Segment.{segment_of}
use Rattle.column_segment.proofs.CallerLemmas.{IsSegment-one}
use Rattle.lattice.specs.Views.{index_of}
use Rattle.lattice.proofs.Places.{one_view}
use Rattle.cuboid_cells.specs.Cells.{PlainCells}
use Rattle.cuboid_cells.specs.Steps.{cells_of}
use Rattle.cuboid_cells.proofs.CallerLemmas.{IsRun-one}
use Rattle.warehouse_root.specs.declared.cuboid.StoredCuboid.{StoredCuboid}
use Rattle.warehouse_root.specs.declared.layout.Layout.{Layout}
use Rattle.warehouse_root.specs.declared.layout.Layout.TheVariants.{First, Second}
use Rattle.warehouse_root.specs.Layouts.{layout_number, view_count}
use Rattle.warehouse_root.specs.Objects.{run_id}
use Rattle.warehouse_root.specs.Root.{ViewsAscend}
use Rattle.warehouse_root.proofs.CallerLemmas.{root_fits, root_of-one}
use Rattle.warehouse_objects.specs.Warehouse.{Cuboid, Warehouse, cuboid_at, ship_modes_of}
use Rattle.warehouse_objects.specs.Represents.{IsLaid, Represents, RepresentsWith, dimension_of, object_of, root_of}
use Rattle.warehouse_objects.specs.Represents.{modes_object, run_after, run_bytes, run_in, said_of}
use Rattle.warehouse_objects.proofs.Batches.{few_batches, segment_at, some_one}
use Rattle.warehouse_objects.proofs.Contents.{object_batch, objects_high, rows_one}

-- ---- the object of a run

place_is : (v r : ℕ) → r < 16 → ((16 * v + r) / 16 ≡ v) × ((16 * v + r) % 16 ≡ r)
place_is v r few =
    let parts : 16 * ((16 * v + r) / 16) + (16 * v + r) % 16 ≡ 16 * v + r = div-add-mod (16 * v + r) 16 in
    let low : (16 * v + r) % 16 < 16 = mod-lt (16 * v + r) (omega arith) in
    (omega (arith, parts, low, few), omega (arith, parts, low, few))

-- a cuboid of cuboids by ascending views is that of its view
pub own_view : (cuboids : List Cuboid) (k : ℕ) (d : Cuboid) → ViewsAscend (map said_of cuboids) → k < length cuboids
    → cuboid_at (index_of (get_or cuboids k d).view) cuboids ≡ Some (get_or cuboids k d)
own_view [] k d up within = absurd (omega (arith, within))
own_view (c ∷ cs) zero d up within =
    ap (λ (b : Bool). if b then Some c else cuboid_at (index_of c.view) cs) (same (index_of c.view))
  where
    same : (n : ℕ) → (n == n) ≡ true
    same n = grind (arith, nat_tests)
own_view (c ∷ cs) (suc k) d up within =
    let inside : k < length cs = omega (arith, within) in
    let at_k = get_or-map said_of cs k d (said_of d) inside in
    let above = up 0 (suc k) (said_of d) (omega arith) (omega (arith, inside, length-map cs said_of)) in
    let less : index_of c.view < index_of (get_or cs k d).view =
    omega (arith, above, ap (λ (s : StoredCuboid). s.view) at_k) in
    ap (λ (b : Bool). if b then Some c else cuboid_at (index_of (get_or cs k d).view) cs)
    (other (index_of c.view) (index_of (get_or cs k d).view) less)
    ∙ own_view cs k d (λ i j e before lt. up (suc i) (suc j) e (omega (arith, before)) (omega (arith, lt))) inside
  where
    other : (n m : ℕ) → n < m → (n == m) ≡ false
    other n m lt = grind (arith, nat_tests, lt)

pub object_run : (w : Warehouse) (k r : ℕ) (d : Cuboid) → ViewsAscend (map said_of w.cuboids) → k < length w.cuboids
    → r < 16
    → object_of w (run_id (index_of (get_or w.cuboids k d).view) r) ≡ option_map (run_bytes (get_or w.cuboids k d))
    (slice_get (get_or w.cuboids k d).runs r)
object_run w k r d up within few =
    let v : ℕ = index_of (get_or w.cuboids k d).view in
    let at = place_is v r few in
    let back : run_id v r - 131072 ≡ 16 * v + r = omega arith in
    objects_high (dimension_of w.rows Customer) (dimension_of w.rows Supplier) (dimension_of w.rows Part)
    (dimension_of w.rows Date) (modes_object w.layout (ship_modes_of w)) segment_of (λ place. run_after place w.cuboids)
    w.batches (run_id v r) (omega arith)
    ∙ ap (λ (p : ℕ). run_after p w.cuboids) back
    ∙ ap (λ (q : ℕ). run_in (cuboid_at q w.cuboids) ((16 * v + r) % 16)) at.0
    ∙ ap (λ (m : ℕ). run_in (cuboid_at v w.cuboids) m) at.1
    ∙ ap (λ (o : Option Cuboid). run_in o r) (own_view w.cuboids k d up within)

-- ---- lists that are the same at each place

all_same : {A : Type 0} (xs ys : List A) → length xs ≡ length ys
    → ((k : ℕ) (d : A) → k < length xs → get_or xs k d ≡ get_or ys k d) → xs ≡ ys
all_same [] [] many same = refl
all_same [] (y ∷ ys) many same = absurd (omega (arith, many))
all_same (x ∷ xs) [] many same = absurd (omega (arith, many))
all_same (x ∷ xs) (y ∷ ys) many same =
    λ i. same 0 x (omega arith) i ∷ all_same xs ys (omega (arith, many)) (λ k d lt. same (suc k) d (omega (arith, lt)))
    i

batches_same : {A : Type 0} (xs ys : List A) → length xs ≡ length ys
    → ((k : ℕ) (x y : A) → slice_get xs k ≡ Some x → slice_get ys k ≡ Some y → x ≡ y) → xs ≡ ys
batches_same [] [] many same = refl
batches_same [] (y ∷ ys) many same = absurd (omega (arith, many))
batches_same (x ∷ xs) [] many same = absurd (omega (arith, many))
batches_same (x ∷ xs) (y ∷ ys) many same =
    λ i. same 0 x y refl refl i ∷ batches_same xs ys (omega (arith, many)) (λ k. same (suc k)) i

pub one_layout : (a b : Layout) → layout_number a ≡ layout_number b → a ≡ b
one_layout First First same = refl
one_layout First Second same = absurd (omega (arith, same))
one_layout Second First same = absurd (omega (arith, same))
one_layout Second Second same = refl

-- ---- one warehouse

module _ (c : Content) (w v : Warehouse) (is : RepresentsWith IsLaid c w)
    (also : RepresentsWith IsLaid c v) where
  same_root : root_of w ≡ root_of v
  same_root =
      root_of-one (root_of w) (root_of v) (root_fits (root_of w) is.root.proper)
      (root_fits (root_of v) also.root.proper) (one_layout w.layout v.layout (sym is.layout ∙ also.layout))
      (sym is.root.spelled ∙ also.root.spelled)

  same_count : length w.batches ≡ length v.batches
  same_count = sym (length-map w.batches length) ∙ ap (λ r. length r.batches) same_root ∙ length-map v.batches length

  same_batch : (k : ℕ) (x y : List LineOrder) → slice_get w.batches k ≡ Some x → slice_get v.batches k ≡ Some y → x ≡ y
  same_batch k x y at other =
      let low : k < 65535 = omega (arith, slice_get_within w.batches k x at, few_batches w.rows w.batches is.batches) in
      let bytes : segment_of (k + 1) x ≡ segment_of (k + 1) y =
      some_one _ _ (sym (ap (option_map (segment_of (k + 1))) at) ∙ sym (object_batch w k low)
      ∙ sym (is.objects (65537 + k)) ∙ also.objects (65537 + k) ∙ object_batch v k low
      ∙ ap (option_map (segment_of (k + 1))) other) in
      let segment = segment_at v.rows v.batches also.batches k y other in
      (IsSegment-one (segment_of (k + 1) x) (k + 1) (k + 1) x y (segment_at w.rows w.batches is.batches k x at)
      (record { spelled = bytes; number_fits = segment.number_fits; batch = segment.batch; fits = segment.fits })).1

  abbrev said : List Cuboid → List StoredCuboid
  said cuboids = map said_of cuboids

  same_said : said w.cuboids ≡ said v.cuboids
  same_said = ap (λ r. r.cuboids) same_root

  many_cuboids : length w.cuboids ≡ length v.cuboids
  many_cuboids = sym (length-map w.cuboids said_of) ∙ ap (λ (l : List StoredCuboid). length l) same_said
      ∙ length-map v.cuboids said_of

  same_entry : (k : ℕ) (d : Cuboid) → k < length w.cuboids
      → said_of (get_or w.cuboids k d) ≡ said_of (get_or v.cuboids k d)
  same_entry k d within =
      sym (get_or-map said_of w.cuboids k d (said_of d) within)
      ∙ ap (λ (l : List StoredCuboid). get_or l k (said_of d)) same_said
      ∙ get_or-map said_of v.cuboids k d (said_of d) (omega (arith, within, many_cuboids))

  same_cuboid : (k : ℕ) (d : Cuboid) → k < length w.cuboids → get_or w.cuboids k d ≡ get_or v.cuboids k d
  same_cuboid k d within =
      let a = get_or w.cuboids k d in
      let b = get_or v.cuboids k d in
      let entry = same_entry k d within in
      let there : k < length v.cuboids = omega (arith, within, many_cuboids) in
      let number : index_of a.view ≡ index_of b.view = ap (λ (s : StoredCuboid). s.view) entry in
      let view : a.view ≡ b.view = one_view a.view b.view number in
      let runs_many : length a.runs ≡ length b.runs = ap (λ (s : StoredCuboid). s.runs) entry in
      let proper = is.root.proper.each k (said_of d) (omega (arith, within, length-map w.cuboids said_of)) in
      let most : length a.runs ≤ 8 =
      omega (
        arith,
        proper.most_runs,
        ap (λ (s : StoredCuboid). s.runs) (get_or-map said_of w.cuboids k d (said_of d) within),
      ) in
      let laid = is.cuboids k d within in
      let laid_also = also.cuboids k d there in
      let runs : a.runs ≡ b.runs = all_same a.runs b.runs runs_many (λ r e inside.
      let inside_also : r < length b.runs = omega (arith, inside, runs_many) in
      let x = get_or a.runs r e in
      let y = get_or b.runs r e in
      let at_x = slice_get-get_or a.runs r e inside in
      let at_y = slice_get-get_or b.runs r e inside_also in
      let bytes : run_bytes a x ≡ run_bytes b y =
      some_one _ _ (sym (ap (option_map (run_bytes a)) at_x)
      ∙ sym (object_run w k r d is.root.proper.ascending within (omega (arith, inside, most)))
      ∙ sym (is.objects (run_id (index_of a.view) r))
      ∙ also.objects (run_id (index_of a.view) r) ∙ ap (λ (n : ℕ). object_of v (run_id n r)) number
      ∙ object_run v k r d also.root.proper.ascending there (omega (arith, inside, most))
      ∙ ap (option_map (run_bytes b)) at_y) in
      let one = IsRun-one (run_bytes a x) x.span y.span (cells_of a.view x.cells) (cells_of b.view y.cells)
      (record { spelled = refl; span = laid.spans r e inside; proper = laid.proper r e inside })
      (record { spelled = bytes; span = laid_also.spans r e inside_also; proper = laid_also.proper r e inside_also }) in
      λ i. record { span = one.0 i; cells = ap (λ (p : PlainCells). p.cells) one.1 i }) in
      λ i. record { view = view i; mark = ap (λ (s : StoredCuboid). s.mark) entry i; runs = runs i }

  pub laid_one : w ≡ v
  laid_one =
      let rows : w.rows ≡ v.rows = rows_one c w.rows v.rows is.rows also.rows
      (record { customers = is.objects 1; suppliers = is.objects 2; parts = is.objects 3; dates = is.objects 4 })
      (record {
        customers = also.objects 1;
        suppliers = also.objects 2;
        parts = also.objects 3;
        dates = also.objects 4;
      }) in
      let batches : w.batches ≡ v.batches = batches_same w.batches v.batches same_count same_batch in
      let cuboids : w.cuboids ≡ v.cuboids = all_same w.cuboids v.cuboids many_cuboids same_cuboid in
      λ i. record {
        layout = ap (λ r. r.layout) same_root i;
        rows = rows i;
        batches = batches i;
        target = ap (λ r. r.target) same_root i;
        additions = ap (λ r. r.additions) same_root i;
        cuboids = cuboids i;
      }

-- the views of stored cuboids are those of the layout
module _ {Keeps : Warehouse → Cuboid → Type 0} (c : Content) (w : Warehouse) (represents : RepresentsWith Keeps c w)
  where
    abbrev IsOfLayout : Cuboid → Type 0
    IsOfLayout cuboid = index_of cuboid.view < view_count w.layout

    pub views_within : All IsOfLayout w.cuboids
    views_within = λ k d within.
        let said = represents.root.proper.each k (said_of d) (omega (arith, within, length-map w.cuboids said_of)) in
        omega (
          arith,
          ap (λ (s : StoredCuboid). s.view) (get_or-map said_of w.cuboids k d (said_of d) within),
          said.view,
        )

    found_in : (cuboids : List Cuboid) (n : ℕ) (found : Cuboid) → All IsOfLayout cuboids
        → cuboid_at n cuboids ≡ Some found → IsOfLayout found
    found_in [] n found all is = absurd (cc is)
    found_in (x ∷ xs) n found all is =
        (elim (index_of x.view == n) as
        (λ (t : Bool). (if t then Some x else cuboid_at n xs) ≡ Some found → IsOfLayout found) [
          | true ↦ λ e.
              (let same : x ≡ found = cc e in subst IsOfLayout same (All-head IsOfLayout x xs all))
          | false ↦ λ e. found_in xs n found (All-tail IsOfLayout x xs all) e
        ]) is

    pub view_within : (n : ℕ) (found : Cuboid) → cuboid_at n w.cuboids ≡ Some found → IsOfLayout found
    view_within n found is = found_in w.cuboids n found views_within is

-- a warehouse that is represented is laid out
pub laid_of : (c : Content) (w : Warehouse) → Represents c w → RepresentsWith IsLaid c w
laid_of c w represents = record {
  objects = represents.objects;
  once = represents.once;
  layout = represents.layout;
  root = represents.root;
  rows = represents.rows;
  batches = represents.batches;
  modes = represents.modes;
  cuboids = λ k d within. (represents.cuboids k d within).laid;
}

pub one_warehouse : (c : Content) (w v : Warehouse) → Represents c w → Represents c v → w ≡ v
one_warehouse c w v is also = laid_one c w v (laid_of c w is) (laid_of c v also)
