-- The commit that brings a stored cuboid on.
use Rattle.std.proofs.Common.{◌≡◌, ◌⊎◌, ⊎_elim, inl, inr, ◌≤◌, ◌<◌, ◌==◌, if◌then◌else◌, ℕ, Bool, false, Option, Some}
use Rattle.std.proofs.Common.{None, List, [], ◌∷◌, length, All, refl, sym, ◌∙◌, ap, subst, arith}
use Rattle.std.proofs.lemmas.Bool.Decides.{nat_tests}
use Rattle.std.proofs.lemmas.List.Elements.{All-head, All-tail}
use Rattle.cube_model.specs.declared.rows.DimRows.{DimRows}
use Rattle.object_store.specs.Content.{Content, bytes_of}
use Rattle.object_store.specs.Commit.{IsFew, committed, without}
use Rattle.object_store.specs.Disk.{Disk, Leaves}
use Rattle.object_store.proofs.Moments.{leaves_weaker}
use Rattle.cube_model.specs.declared.fault.Fault.{Fault}
use Rattle.object_store.specs.Room.{Room}
use Rattle.object_store.specs.Store.{IsOneOf, Refuses}
use Rattle.object_store.proofs.CallerLemmas.{bytes_after, few_after, layout_after, root_after}
use Rattle.lattice.specs.Views.{index_of}
use Rattle.warehouse_root.specs.Layouts.{layout_number}
use Rattle.warehouse_root.specs.Objects.{run_id}
use Rattle.warehouse_root.specs.Root as roots
use Rattle.warehouse_root.specs.Root.{PlainRoot}
use Rattle.warehouse_root.specs.declared.layout.Layout.{Layout}
use Rattle.warehouse_objects.specs.Loaded.{IsLoaded}
use Rattle.warehouse_objects.specs.Lawful.{later_runs, run_put}
use Rattle.warehouse_objects.specs.Represents.{HasModes, Represents, root_of}
use Rattle.warehouse_objects.specs.Warehouse.{Cuboid, StoredRun, Warehouse, kept}
use Rattle.warehouse_objects.proofs.CallerLemmas.{modes_still}
use Rattle.warehouse_objects.proofs.Kept.{represents_appended, represents_merged}
use Rattle.stored_cuboids.specs.Nexts.{Appends, BringsOn, Merges, first_run}
use Rattle.stored_cuboids.specs.declared.keeping.Next.{Next}

pub few_one : (c : Content) (puts : List (ℕ × List ℕ)) (drops bytes : List ℕ) (layout : ℕ) → length puts ≡ 1
    → length c.objects < 65536 → IsFew (committed puts drops bytes layout c)
few_one c puts drops bytes layout one few = omega (arith, few_after puts drops bytes layout c, one, few)

module _ (c : Content) (w : Warehouse) (old new : Cuboid) (run : StoredRun) (next : Next) (represents : Represents c w)
    (brings : BringsOn w old new run next) where
  abbrev root_bytes : List ℕ
  root_bytes = roots.root_spelling (root_of (kept w new))

  bytes_are : next.root_bytes.items ≡ root_bytes
  bytes_are = brings.spelled.spelled ∙ ap roots.root_spelling brings.root

  -- where the puts and the drops are such
  moved : (n : ℕ) (drops : List ℕ) → next.id ≡ run_id (index_of new.view) n → next.drops.items ≡ drops
      → Represents (committed (run_put new n run) drops root_bytes (layout_number w.layout) c) (kept w new)
      → Represents
      (committed ((next.id, next.bytes.items) ∷ []) next.drops.items next.root_bytes.items
      (layout_number next.root.layout)
      c)
      (kept w new)
  moved n drops id_is drops_are is =
      subst (λ (i : ℕ). Represents
      (committed ((i, next.bytes.items) ∷ []) next.drops.items next.root_bytes.items (layout_number next.root.layout) c)
      (kept w new)) (sym id_is)
      (subst (λ (b : List ℕ). Represents
      (committed ((run_id (index_of new.view) n, b) ∷ []) next.drops.items next.root_bytes.items
      (layout_number next.root.layout)
      c) (kept w new)) (sym brings.bytes)
      (subst (λ (d : List ℕ). Represents
      (committed (run_put new n run) d next.root_bytes.items (layout_number next.root.layout) c)
      (kept w new)) (sym drops_are)
      (subst (λ (b : List ℕ). Represents (committed (run_put new n run) drops b (layout_number next.root.layout) c)
      (kept w new))
      (sym bytes_are)
      (subst (λ (l : ℕ). Represents (committed (run_put new n run) drops root_bytes l c) (kept w new))
      (ap (λ (r : PlainRoot). layout_number r.layout) (sym brings.root)) is))))

  pub represents_next : Represents
      (committed ((next.id, next.bytes.items) ∷ []) next.drops.items next.root_bytes.items
      (layout_number next.root.layout)
      c)
      (kept w new)
  represents_next =
      ⊎_elim {C =
      Represents (committed ((next.id, next.bytes.items) ∷ []) next.drops.items next.root_bytes.items
      (layout_number next.root.layout) c) (kept w new)}
      (λ (a : Appends old new run next). moved (length old.runs) [] a.id a.drops
      (represents_appended c w old new represents brings.may run a.runs))
      (λ (m : Merges old new run next). moved 0 (later_runs old) m.id m.drops
      (represents_merged c w old new represents brings.may run m.runs))
      brings.how

-- what was handed to the commit
module _ (c : Content) (w : Warehouse) (old new : Cuboid) (run : StoredRun) (next : Next) (put drops bytes : List ℕ)
    (layout : ℕ)
    (put_is : put ≡ next.bytes.items) (drops_are : drops ≡ next.drops.items)
    (bytes_are_next : bytes ≡ next.root_bytes.items) (layout_is : layout ≡ layout_number next.root.layout) where
  pub after : Represents c w → BringsOn w old new run next
      → Represents (committed ((next.id, put) ∷ []) drops bytes layout c) (kept w new)
  after represents brings =
      subst (λ (p : List ℕ). Represents (committed ((next.id, p) ∷ []) drops bytes layout c) (kept w new)) (sym put_is)
      (subst (λ (d : List ℕ). Represents (committed ((next.id, next.bytes.items) ∷ []) d bytes layout c) (kept w new))
      (sym drops_are)
      (subst (λ (b : List ℕ). Represents (committed ((next.id, next.bytes.items) ∷ []) next.drops.items b layout c)
      (kept w new)) (sym bytes_are_next)
      (subst (λ (l : ℕ). Represents
      (committed ((next.id, next.bytes.items) ∷ []) next.drops.items next.root_bytes.items l c) (kept w new))
      (sym layout_is)
      (represents_next c w old new run next represents brings))))

  pub next_leaves : (start now : Disk) → (start.keeps_word → Represents c w) → BringsOn w old new run next
      → Leaves start now (IsOneOf c (committed ((next.id, put) ∷ []) drops bytes layout c))
      → Leaves start now (λ x. Represents x w ⊎ Represents x (kept w new))
  next_leaves start now represents brings leaves =
      leaves_weaker (IsOneOf c (committed ((next.id, put) ∷ []) drops bytes layout c))
      (λ (x : Content). Represents x w ⊎ Represents x (kept w new)) start now
      (λ k x. ⊎_elim (λ e. inl (subst (λ (y : Content). Represents y w) (sym e) (represents k)))
      (λ e. inr (subst (λ (y : Content). Represents y (kept w new)) (sym e) (after (represents k) brings)))) leaves

-- ---- what is kept in memory

without_runs : (drops : List ℕ) (id : ℕ) (was : Option (List ℕ)) → All (λ drop. first_run ≤ drop) drops → id < first_run
    → without drops id was ≡ was
without_runs [] id was runs low = refl
without_runs (drop ∷ drops) id was runs low =
    let high : first_run ≤ drop = All-head (λ d. first_run ≤ d) drop drops runs in
    let other : (drop == id) ≡ false = grind (arith, nat_tests, high, low) in
    ap (λ (b : Bool). without drops id (if b then None else was)) other
    ∙ without_runs drops id was (All-tail (λ d. first_run ≤ d) drop drops runs) low

module _ (c : Content) (id : ℕ) (put drops bytes : List ℕ) (layout : ℕ) (runs : All (λ i. first_run ≤ i) (id ∷ drops))
  where
    same_at : (low : ℕ) → low < 6 → bytes_of (committed ((id, put) ∷ []) drops bytes layout c) low ≡ bytes_of c low
    same_at low few =
        let high : first_run ≤ id = All-head (λ i. first_run ≤ i) id drops runs in
        let other : (id == low) ≡ false = grind (arith, nat_tests, high, few) in
        bytes_after ((id, put) ∷ []) drops bytes layout c low
        ∙ ap (λ (b : Bool). if b then Some put else without drops low (bytes_of c low)) other
        ∙ without_runs drops low (bytes_of c low) (All-tail (λ i. first_run ≤ i) id drops runs) (omega (arith, few))

    -- it is the root of after, and the dimensions of before
    pub loaded_next : (after : PlainRoot) → layout ≡ layout_number after.layout → roots.IsRoot bytes after
        → (rows : DimRows) (modes : List (List ℕ)) (root : PlainRoot) → after.layout ≡ root.layout
        → IsLoaded c rows modes root → IsLoaded (committed ((id, put) ∷ []) drops bytes layout c) rows modes after
    loaded_next after layout_is spells rows modes root same is = record {
      layout = layout_after ((id, put) ∷ []) drops bytes layout c ∙ layout_is;
      has_rows = record {
        customers = same_at 1 (omega arith) ∙ is.has_rows.customers;
        suppliers = same_at 2 (omega arith) ∙ is.has_rows.suppliers;
        parts = same_at 3 (omega arith) ∙ is.has_rows.parts;
        dates = same_at 4 (omega arith) ∙ is.has_rows.dates;
      };
      has_modes = modes_still c (committed ((id, put) ∷ []) drops bytes layout c) after.layout modes
          (same_at 5 (omega arith)) (subst (λ (l : Layout). HasModes c l modes) (sym same) is.has_modes);
      are_modes = is.are_modes;
      storable = is.storable;
      is_root = subst (λ (b : List ℕ). roots.IsRoot b after) (sym (root_after ((id, put) ∷ []) drops bytes layout c))
          spells;
    }

-- ---- why it is refused

pub refuses_same : (c : Content) (room : Room) (id : ℕ) (put bytes drops dropped root spelled : List ℕ) (fault : Fault)
    → put ≡ bytes → drops ≡ dropped → root ≡ spelled
    → Refuses c room ((id, put) ∷ []) drops root fault → Refuses c room ((id, bytes) ∷ []) dropped spelled fault
refuses_same c room id put bytes drops dropped root spelled fault put_is drops_are root_is refuses =
    subst (λ (l : List ℕ). Refuses c room ((id, bytes) ∷ []) dropped l fault) root_is
    (subst (λ (l : List ℕ). Refuses c room ((id, bytes) ∷ []) l root fault) drops_are
    (subst (λ (l : List ℕ). Refuses c room ((id, l) ∷ []) drops root fault) put_is refuses))
