-- A commit of another root, and what the content represents then.
use Rattle.std.proofs.Common.{◌≡◌, ◌⊎◌, ⊎_elim, inl, inr, ℕ, ◌+◌, ◌<◌, ◌≤◌, ◌==◌, if◌then◌else◌, Bool, true, false}
use Rattle.std.proofs.Common.{cond, not, Option, None, List, [], ◌∷◌, ◌++◌, length, All, refl, sym, ◌∙◌, ap, subst}
use Rattle.std.proofs.Common.{arith, append-nil}
use Rattle.std.specs.List.{filter, flat_map, range_with_len}
use Rattle.std.proofs.lemmas.Bool.Decides.{nat_tests}
use Rattle.std.proofs.lemmas.List.{length-map}
use Rattle.std.proofs.lemmas.List.Elements.{All-append, All-head, All-nil, All-tail, filter-append}
use Rattle.std.proofs.lemmas.Grind.{flat_map-append}
use Rattle.std.proofs.lemmas.List.FromFn.{get_or-range_with_len, length-range_with_len}
use Rattle.sector_device.specs.declared.device.Sectors.{Ghosts}
use Rattle.cube_model.specs.declared.fault.Fault.{Fault}
use Rattle.cube_model.specs.declared.fault.Fault.TheVariants.{BadLayout}
use Rattle.cube_model.specs.declared.rows.DimRows.{DimRows}
use Rattle.wire.specs.Limits.{most_objects}
use Rattle.object_store.specs.Content.{Content, bytes_of}
use Rattle.object_store.specs.Commit.{IsFew, committed, without}
use Rattle.object_store.specs.Disk.{Disk, Leaves, disk}
use Rattle.object_store.proofs.Moments.{leaves_weaker}
use Rattle.object_store.specs.Store as stores
use Rattle.object_store.specs.Store.{IsAsBefore, IsOneOf, Refuses}
use Rattle.object_store.specs.declared.store.Store.{Store}
use Rattle.object_store.proofs.CallerLemmas.{bytes_after, few_after, generation_after, layout_after, root_after}
use Rattle.lattice.specs.declared.view.View.{View}
use Rattle.warehouse_root.specs.declared.cuboid.StoredCuboid.{StoredCuboid}
use Rattle.warehouse_root.specs.declared.layout.Layout.{Layout}
use Rattle.warehouse_root.specs.Layouts.{layout_number}
use Rattle.warehouse_root.specs.Limits.{most_cuboids}
use Rattle.warehouse_root.specs.Objects.{run_id, run_ids}
use Rattle.warehouse_root.specs.Root as roots
use Rattle.warehouse_root.specs.Root.{PlainRoot}
use Rattle.warehouse_objects.specs.Loaded.{IsLoaded}
use Rattle.warehouse_objects.specs.Represents.{HasModes, Represents, root_of, said_with}
use Rattle.warehouse_objects.specs.Warehouse.{Warehouse, aimed, dropped_ids, is_among, with_views}
use Rattle.warehouse_objects.proofs.CallerLemmas.{dropped_are, few_objects, root_viewed, represents_aimed}
use Rattle.warehouse_objects.proofs.CallerLemmas.{modes_still, represents_chosen}
use Rattle.stored_cuboids.specs.Keeping.{StoreAt}
use Rattle.stored_cuboids.specs.Nexts.{first_run}
use Rattle.stored_cuboids.specs.Replacing.{dropped_of, content_replaced}

-- ---- the content of another root

pub few_replaced : (c : Content) (drops bytes : List ℕ) (layout : ℕ) → length c.objects ≤ 65536
    → IsFew (committed [] drops bytes layout c)
few_replaced c drops bytes layout few = omega (arith, few_after [] drops bytes layout c, few)

-- what was handed to the commit
pub replaced_by : (c : Content) (drops bytes : List ℕ) (layout : ℕ) (next : PlainRoot)
    → bytes ≡ roots.root_spelling next
    → layout ≡ layout_number next.layout → committed [] drops bytes layout c ≡ content_replaced next drops c
replaced_by c drops bytes layout next bytes_are layout_is =
    ap (λ (b : List ℕ). committed [] drops b layout c) bytes_are
    ∙ ap (λ (l : ℕ). committed [] drops (roots.root_spelling next) l c) layout_is

without_high : (drops : List ℕ) (id : ℕ) (was : Option (List ℕ)) → All (λ drop. first_run ≤ drop) drops → id < first_run
    → without drops id was ≡ was
without_high [] id was runs low = refl
without_high (drop ∷ drops) id was runs low =
    let high : first_run ≤ drop = All-head (λ d. first_run ≤ d) drop drops runs in
    let other : (drop == id) ≡ false = grind (arith, nat_tests, high, low) in
    ap (λ (b : Bool). without drops id (if b then None else was)) other
    ∙ without_high drops id was (All-tail (λ d. first_run ≤ d) drop drops runs) low

module _ (c : Content) (drops : List ℕ) (next : PlainRoot) (runs : All (λ id. first_run ≤ id) drops) where
  same_at : (low : ℕ) → low < 6 → bytes_of (content_replaced next drops c) low ≡ bytes_of c low
  same_at low few = bytes_after [] drops (roots.root_spelling next) (layout_number next.layout) c low
      ∙ without_high drops low (bytes_of c low) runs (omega (arith, few))

  -- what is kept in memory then
  pub loaded_replaced : roots.IsProperRoot next → (rows : DimRows) (modes : List (List ℕ)) (root : PlainRoot)
      → next.layout ≡ root.layout → IsLoaded c rows modes root
      → IsLoaded (content_replaced next drops c) rows modes next
  loaded_replaced proper rows modes root same is = record {
    layout = layout_after [] drops (roots.root_spelling next) (layout_number next.layout) c;
    has_rows = record {
      customers = same_at 1 (omega arith) ∙ is.has_rows.customers;
      suppliers = same_at 2 (omega arith) ∙ is.has_rows.suppliers;
      parts = same_at 3 (omega arith) ∙ is.has_rows.parts;
      dates = same_at 4 (omega arith) ∙ is.has_rows.dates;
    };
    has_modes = modes_still c (content_replaced next drops c) next.layout modes (same_at 5 (omega arith))
        (subst (λ (l : Layout). HasModes c l modes) (sym same) is.has_modes);
    are_modes = is.are_modes;
    storable = is.storable;
    is_root = record {
      spelled = root_after [] drops (roots.root_spelling next) (layout_number next.layout) c;
      proper = proper;
    };
  }

pub generation_replaced : (c : Content) (drops : List ℕ) (next : PlainRoot)
    → (content_replaced next drops c).generation ≡ c.generation + 1
generation_replaced c drops next = generation_after [] drops (roots.root_spelling next) (layout_number next.layout) c

-- before a commit
pub leaves_before : (c d : Content) (old new : Disk) → Leaves old new (λ x. x ≡ c) → Leaves old new (IsOneOf c d)
leaves_before c d old new = leaves_weaker (λ (x : Content). x ≡ c) (IsOneOf c d) old new (λ k x e. inl e)

-- ---- one warehouse, and another one after

-- a root and drops make one warehouse of another
pub record Makes (c : Content) (root next : PlainRoot) (drops : List ℕ) (w v : Warehouse) : Type 0 where
  pub represents : Represents c w → root_of w ≡ root → Represents (content_replaced next drops c) v
  pub root_is : root_of w ≡ root → root_of v ≡ next

made_so : (c : Content) (w v : Warehouse) (next : PlainRoot) (dropped drops : List ℕ) → Represents c w
    → root_of v ≡ next → dropped ≡ drops
    → Represents (committed [] dropped (roots.root_spelling (root_of v)) (layout_number v.layout) c) v
    → Represents (content_replaced next drops c) v
made_so c w v next dropped drops represents next_is drops_are is =
    subst (λ (d : List ℕ). Represents (content_replaced next d c) v) drops_are
    (subst (λ (r : PlainRoot). Represents (committed [] dropped (roots.root_spelling r) (layout_number r.layout) c) v)
    next_is is)

-- a new target
aimed_root : (root : PlainRoot) (w : Warehouse) → root_of w ≡ root
    → root_of (aimed w) ≡ roots.with_target (length root.batches) root
aimed_root root w same =
    ap (λ (n : ℕ). roots.with_target n (root_of w)) (sym (length-map w.batches length))
    ∙ ap (λ (r : PlainRoot). roots.with_target (length r.batches) r) same

pub makes_aimed : (c : Content) (root : PlainRoot) (w : Warehouse)
    → Makes c root (roots.with_target (length root.batches) root) [] w (aimed w)
makes_aimed c root w = record {
  represents = λ represents same. made_so c w (aimed w) (roots.with_target (length root.batches) root) [] [] represents
      (aimed_root root w same) refl (represents_aimed c w represents);
  root_is = λ same. aimed_root root w same;
}

-- other views
viewed_root : (root : PlainRoot) (w : Warehouse) (views : List View) → root_of w ≡ root
    → root_of (with_views w views) ≡ roots.with_cuboids (said_with root.layout views root.cuboids) root
viewed_root root w views same = root_viewed w views
    ∙ ap (λ (r : PlainRoot). roots.with_cuboids (said_with r.layout views r.cuboids) r) same

pub viewed_drops : (root : PlainRoot) (w : Warehouse) (views : List View) → root_of w ≡ root
    → dropped_of views root.cuboids ≡ dropped_ids w views
viewed_drops root w views same = ap (λ (r : PlainRoot). dropped_of views r.cuboids) (sym same) ∙ dropped_are w views

pub makes_viewed : (c : Content) (root : PlainRoot) (w : Warehouse) (views : List View) → length views ≤ most_cuboids
    → Makes c root (roots.with_cuboids (said_with root.layout views root.cuboids) root) (dropped_of views root.cuboids)
    w
    (with_views w views)
makes_viewed c root w views few = record {
  represents = λ represents same.
      made_so c w (with_views w views) (roots.with_cuboids (said_with root.layout views root.cuboids) root)
      (dropped_ids w views)
      (dropped_of views root.cuboids) represents
      (viewed_root root w views same) (sym (viewed_drops root w views same))
      (represents_chosen c w views represents few);
  root_is = λ same. viewed_root root w views same;
}

-- what was made for a commit
pub makes_target : (c : Content) (root next : PlainRoot) (w : Warehouse) (batches : List ℕ)
    → next ≡ roots.with_target (length batches) root → batches ≡ root.batches → Makes c root next [] w (aimed w)
makes_target c root next w batches next_is batches_are =
    subst (λ (r : PlainRoot). Makes c root r [] w (aimed w))
    (sym (next_is ∙ ap (λ (l : List ℕ). roots.with_target (length l) root) batches_are)) (makes_aimed c root w)

pub makes_views : (c : Content) (root next : PlainRoot) (w : Warehouse) (views : List View) (drops : List ℕ)
    → length views ≤ most_cuboids
    → next ≡ roots.with_cuboids (said_with root.layout views root.cuboids) root → drops ≡ dropped_of views root.cuboids
    → Makes c root next drops w (with_views w views)
makes_views c root next w views drops few next_is drops_are =
    subst (λ (r : PlainRoot). Makes c root r drops w (with_views w views)) (sym next_is)
    (subst (λ (d : List ℕ). Makes c root (roots.with_cuboids (said_with root.layout views root.cuboids) root) d w
    (with_views w views)) (sym drops_are) (makes_viewed c root w views few))

all_range : (P : ℕ → Type 0) (a n : ℕ) → ((k : ℕ) → k < n → P (a + k)) → All P (range_with_len a n)
all_range P a n each k d lt =
    let within : k < n = omega (arith, lt, length-range_with_len a n) in
    subst P (sym (get_or-range_with_len a n k d within)) (each k within)

-- what is dropped are runs
pub drops_high : (views : List View) (cuboids : List StoredCuboid)
    → All (λ id. first_run ≤ id) (dropped_of views cuboids)
drops_high views cuboids = each (filter (λ (cuboid : StoredCuboid). not (is_among views cuboid.view)) cuboids)
  where
    each : (some : List StoredCuboid) → All (λ id. first_run ≤ id) (flat_map run_ids some)
    each [] = All-nil (λ id. first_run ≤ id)
    each (cuboid ∷ rest) =
        All-append (λ id. first_run ≤ id) (run_ids cuboid) (flat_map run_ids rest)
        (all_range (λ id. first_run ≤ id) (run_id cuboid.view 0) cuboid.runs (λ k lt. omega arith)) (each rest)

-- one cuboid more
pub dropped_more : (views : List View) (cuboids : List StoredCuboid) (cuboid : StoredCuboid) (among : Bool)
    → is_among views cuboid.view ≡ among
    → dropped_of views (cuboids ++ cuboid ∷ []) ≡ dropped_of views cuboids ++ cond (not among) (run_ids cuboid) []
dropped_more views cuboids cuboid among is =
    let test : StoredCuboid → Bool = λ (one : StoredCuboid). not (is_among views one.view) in
    ap (flat_map run_ids) (filter-append test cuboids (cuboid ∷ []))
    ∙ flat_map-append run_ids (filter test cuboids) (cond (test cuboid) (cuboid ∷ []) [])
    ∙ ap (λ (b : Bool). flat_map run_ids (filter test cuboids) ++ flat_map run_ids (cond (not b) (cuboid ∷ []) [])) is
    ∙ ap (λ (l : List ℕ). flat_map run_ids (filter test cuboids) ++ l)
    (elim among as (λ b. flat_map run_ids (cond (not b) (cuboid ∷ []) []) ≡ cond (not b) (run_ids cuboid) []) [
      | true ↦ refl
      | false ↦ append-nil (run_ids cuboid)
    ])

-- ---- the store

module _ {D : Type 0} (g : Ghosts D) (old new : Store D g) (w v : Warehouse) (root next : PlainRoot) (drops : List ℕ)
    (at : StoreAt g old root w) (makes : Makes (stores.content_of g old) root next drops w v) where
  abbrev before : Content
  before = stores.content_of g old

  pub replaced_leaves : Leaves (stores.disk_of g old) (stores.disk_of g new)
      (IsOneOf before (content_replaced next drops before))
      → Leaves (stores.disk_of g old) (stores.disk_of g new) (λ c. Represents c w ⊎ Represents c v)
  replaced_leaves leaves =
      leaves_weaker (IsOneOf before (content_replaced next drops before))
      (λ (c : Content). Represents c w ⊎ Represents c v)
      (stores.disk_of g old) (stores.disk_of g new)
      (λ k c. ⊎_elim (λ e. inl (subst (λ (x : Content). Represents x w) (sym e) (at.represents k)))
      (λ e. inr (subst (λ (x : Content). Represents x v) (sym e) (makes.represents (at.represents k) (at.root_is k)))))
      leaves

  pub replaced_at : stores.has_failed new ≡ false
      → ((stores.disk_of g new).keeps_word → (stores.disk_of g old).keeps_word)
      → ((stores.disk_of g new).keeps_word → stores.content_of g new ≡ content_replaced next drops before)
      → StoreAt g new next v
  replaced_at fine word is = record {
    fine = fine;
    represents =
        λ k. subst (λ (x : Content). Represents x v) (sym (is k))
        (makes.represents (at.represents (word k)) (at.root_is (word k)));
    root_is = λ k. makes.root_is (at.root_is (word k));
  }

  -- why it is refused
  pub replaced_causes : (dropped : List ℕ) (fault : Fault) → (root_of w ≡ root → drops ≡ dropped)
      → (stores.disk_of g old).keeps_word
      → ((fault ≡ BadLayout) × (most_objects < length before.objects))
      ⊎ Refuses before (stores.room_of old) [] drops (roots.root_spelling next) fault
      → Refuses before (stores.room_of old) [] dropped (roots.root_spelling (root_of v)) fault
  replaced_causes dropped fault drops_are k =
      ⊎_elim {C = Refuses before (stores.room_of old) [] dropped (roots.root_spelling (root_of v)) fault}
      (λ many. absurd (omega (arith, many.1, few_objects before w (at.represents k))))
      (λ refuses.
      subst (λ (d : List ℕ). Refuses before (stores.room_of old) [] d (roots.root_spelling (root_of v)) fault)
      (drops_are (at.root_is k))
      (subst (λ (r : PlainRoot). Refuses before (stores.room_of old) [] drops (roots.root_spelling r) fault)
      (sym (makes.root_is (at.root_is k))) refuses))

module _ {D : Type 0} (g : Ghosts D) (old new : Store D g) (w : Warehouse) (root : PlainRoot)
    (at : StoreAt g old root w) (same : IsAsBefore g old new) where
  -- a refusal leaves the warehouse
  pub before_at : StoreAt g new root w
  before_at = record {
    fine = same.failed ∙ at.fine;
    represents =
        λ k. subst (λ (x : Content). Represents x w) (sym same.content)
        (at.represents (subst (λ (d : D). g.keeps_word d) same.device k));
    root_is = λ k. at.root_is (subst (λ (d : D). g.keeps_word d) same.device k);
  }

  pub before_leaves : Leaves (stores.disk_of g old) (stores.disk_of g old) (λ c. c ≡ stores.content_of g old)
      → Leaves (stores.disk_of g old) (stores.disk_of g new) (λ c. Represents c w)
  before_leaves leaves =
      subst (λ (d : D). Leaves (stores.disk_of g old) (disk g d) (λ c. Represents c w)) (sym same.device)
      (leaves_weaker (λ (c : Content). c ≡ stores.content_of g old) (λ (c : Content). Represents c w)
      (stores.disk_of g old) (stores.disk_of g old)
      (λ k c e. subst (λ (x : Content). Represents x w) (sym e) (at.represents k)) leaves)
