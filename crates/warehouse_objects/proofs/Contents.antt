-- What contents represent.
use Rattle.std.proofs.Common.{◌≡◌, ◌≢◌, ◌<◌, ◌≤◌, ◌+◌, ◌-◌, ◌==◌, ◌∙◌, suc, sym, ap, refl, subst, arith, drop, get_or}
use Rattle.std.proofs.Common.{nat_lt, if◌then◌else◌, ℕ, Bool, true, false, List, [], ◌∷◌, ◌++◌, map, length, slice_get}
use Rattle.std.proofs.Common.{Option, Some, None, All, length-append}
use Rattle.std.specs.List.{AllPairs}
use Rattle.std.specs.Option.{option_map}
use Rattle.std.proofs.lemmas.Bool.Decides.{nat_tests}
use Rattle.std.proofs.lemmas.List.{append-nil, get_or-map, length-map, map-append, take-append-le}
use Rattle.std.proofs.lemmas.List.Elements.{All-append, All-cons, All-head, All-nil, All-tail}
use Rattle.std.proofs.lemmas.List.Kept.{AllPairs-cons}
use Rattle.cube_model.specs.declared.attr.Axis.TheVariants.{Customer, Supplier, Part, Date}
use Rattle.cube_model.specs.declared.rows.DimRows.{DimRows}
use Rattle.cube_model.specs.declared.rows.LineOrder.{LineOrder}
use Rattle.batch_admission.proofs.CallerLemmas.{all_rows-last}
use Rattle.batch_admission.specs.Totals.{totals_of}
use Rattle.cube_model.specs.Admission.{IsAdmissible, all_rows}
use Rattle.object_store.specs.Content.{Content, bytes_of}
use Rattle.object_store.specs.Commit.{ArePuts, IsObject, among, committed, created}
use Rattle.object_store.proofs.CallerLemmas.{bytes_after, bytes_created, layout_after, layout_created, once_after}
use Rattle.object_store.proofs.CallerLemmas.{once_created, one_put, root_after, root_created}
use Rattle.object_store.proofs.Lists.{AllPairs-head, AllPairs-nil, AllPairs-tail}
use Rattle.column_segment.specs.Segment.{FitColumns, IsBatch, segment_of}
use Rattle.dimensions.proofs.CallerLemmas.{good_on}
use Rattle.dimensions.specs.Shown.{rows_on}
use Rattle.warehouse_root.specs.declared.layout.Layout.{Layout}
use Rattle.warehouse_root.specs.declared.layout.Layout.TheVariants.{First, Second}
use Rattle.warehouse_root.specs.Layouts.{layout_number}
use Rattle.warehouse_root.specs.Modes.{AreModes, kept_modes, modes_spelling}
use Rattle.warehouse_root.specs.Objects.{segment_id}
use Rattle.warehouse_root.proofs.ModesLaws.{modes_spelling-least, modes_spelling-most}
use Rattle.warehouse_root.specs.Root as roots
use Rattle.warehouse_root.specs.Root.{IsProperRoot, IsProperCuboid}
use Rattle.warehouse_root.specs.declared.cuboid.StoredCuboid.{StoredCuboid}
use Rattle.cuboid_cells.specs.declared.span.Span.{Span}
use Rattle.cuboid_cells.specs.Spelled.{IsSpan}
use Rattle.cuboid_cells.specs.Steps.{cells_of}
use Rattle.cuboid_upkeep.specs.Grouping.{RepresentRows}
use Rattle.cuboid_upkeep.proofs.CallerLemmas.{they_still_represent}
use Rattle.dimensions.specs.Shown.{AreStorable}
use Rattle.warehouse_objects.specs.Warehouse.{AreInOrder, Cuboid, IsNext, StoredRun, Warehouse, aimed}
use Rattle.warehouse_objects.specs.Facts.{AdmitsBatch}
use Rattle.warehouse_objects.specs.Warehouse.{fresh_in, loaded, migrated, ship_modes_of}
use Rattle.warehouse_objects.specs.Represents.{Follow, HasRows, HoldsGroupings, Represents, dimension_of, modes_object}
use Rattle.warehouse_objects.specs.Represents.{object_of}
use Rattle.warehouse_objects.specs.Represents.{root_of, rows_in, run_after, said_of, segment_after}
use Rattle.warehouse_objects.specs.Lawful.{batch_put, beginning_puts, dimension_puts, loading_puts, modes_put}
use Rattle.warehouse_objects.specs.Lawful.{new_modes_put}
use Rattle.warehouse_objects.proofs.Batches.{few_batches, in_order_more, in_order_none, is_batch, next_number}
use Rattle.warehouse_objects.proofs.Batches.{root_proper}
use Rattle.warehouse_objects.proofs.Batches.{slice_get_snoc, some_one}
use Rattle.warehouse_objects.proofs.Lengths.{dimension_least, dimension_most, segment_least, segment_most}
use Rattle.warehouse_objects.proofs.Rows.{same_rows}
use Rattle.warehouse_objects.proofs.KeptModes.{admissible_in, modes_begin, modes_more, modes_none, modes_same}
use Rattle.warehouse_objects.proofs.KeptModes.{nothing_kept}

-- ---- objects, by their ids

module _ (a b c d : List ℕ) (m : Option (List ℕ)) (f : ℕ → List LineOrder → List ℕ) (g : ℕ → Option (List ℕ)) where
  abbrev objects_in : List (List LineOrder) → ℕ → Option (List ℕ)
  objects_in batches id =
      if id == 1 then Some a
      else (if id == 2 then Some b
      else (if id == 3 then Some c
      else (if id == 4 then Some d
      else (if id == 5 then m
      else (if nat_lt id 65537 then None
      else (if nat_lt id 131072 then option_map (f (id - 65537 + 1)) (slice_get batches (id - 65537)) else g
      (id - 131072)))))))

  one_more : (batches : List (List LineOrder)) (batch : List LineOrder) (number id : ℕ) → number ≡ length batches + 1
      → number ≤ 65535
      → (if 65536 + number == id then Some (f number batch) else objects_in batches id)
      ≡ objects_in (batches ++ batch ∷ []) id
  one_more batches batch number id is few =
      (elim (65536 + number == id) as (λ t. (65536 + number == id) ≡ t
      → (if t then Some (f number batch) else objects_in batches id) ≡ objects_in (batches ++ batch ∷ []) id) [
        | true ↦ λ e.
            let at : id ≡ 65536 + number = grind (arith, nat_tests, e) in
            let before : id - 65537 ≡ length batches = omega (arith, at, is) in
            let here : id - 65537 + 1 ≡ number = omega (arith, at, is) in
            let snoc = slice_get_snoc batches batch (id - 65537) in
            grind (arith, nat_tests, at, is, before, here, snoc, few)
        | false ↦ λ e.
            let snoc = slice_get_snoc batches batch (id - 65537) in
            grind (arith, nat_tests, e, is, snoc, few)
      ]) refl

  pub object_after : (batches : List (List LineOrder)) (before : ℕ) → before < 65535
      → objects_in batches (65537 + before) ≡ option_map (f (before + 1)) (slice_get batches before)
  object_after batches before low =
      let back : 65537 + before - 65537 ≡ before = omega arith in
      grind (arith, nat_tests, back, low)

  -- objects before the runs, and the runs
  pub objects_low : (h : ℕ → Option (List ℕ)) (batches : List (List LineOrder)) (id : ℕ) (t : Option (List ℕ))
      → id < 131072 → objects_in batches id ≡ t
      → (if id == 1 then Some a else
      (if id == 2 then Some b else
      (if id == 3 then Some c else
      (if id == 4 then Some d else
      (if id == 5 then m else
      (if nat_lt id 65537 then None else
      (if nat_lt id 131072 then option_map (f (id - 65537 + 1)) (slice_get batches (id - 65537)) else h
      (id - 131072)))))))) ≡ t
  objects_low h batches id t low is = grind (arith, nat_tests, low, is)

  pub objects_high : (batches : List (List LineOrder)) (id : ℕ) → 131072 ≤ id → objects_in batches id ≡ g (id - 131072)
  objects_high batches id high = grind (arith, nat_tests, high)

four_objects : (a b c d : List ℕ) (f : ℕ → List LineOrder → List ℕ) (id : ℕ)
    → (if 4 == id then Some d else
    (if 3 == id then Some c else (if 2 == id then Some b else (if 1 == id then Some a else None))))
    ≡ objects_in a b c d None f (λ _. None) [] id
four_objects a b c d f id = grind (arith, nat_tests)

-- the object of ship modes
fifth_object : (a b c d e : List ℕ) (m : Option (List ℕ)) (f : ℕ → List LineOrder → List ℕ) (g : ℕ → Option (List ℕ))
    (batches : List (List LineOrder)) (id : ℕ)
    → (if 5 == id then Some e else objects_in a b c d m f g batches id) ≡ objects_in a b c d (Some e) f g batches id
fifth_object a b c d e m f g batches id = grind (arith, nat_tests)

-- the object of ship modes where it is put again, if there are more
modes_again : (a b c d : List ℕ) (f : ℕ → List LineOrder → List ℕ) (g : ℕ → Option (List ℕ))
    (batches : List (List LineOrder)) (layout : Layout) (old new : List (List ℕ)) (id : ℕ)
    → (length new ≡ length old → new ≡ old)
    → among (if length new == length old then [] else modes_put layout new) id
    (objects_in a b c d (modes_object layout old) f g batches id)
    ≡ objects_in a b c d (modes_object layout new) f g batches id
modes_again a b c d f g batches layout old new id same =
    (elim (length new == length old) as (λ (t : Bool). (length new == length old) ≡ t
    → among (if t then [] else modes_put layout new) id (objects_in a b c d (modes_object layout old) f g batches id)
    ≡ objects_in a b c d (modes_object layout new) f g batches id) [
      | true ↦ λ e.
          (let many : length new ≡ length old = grind (arith, nat_tests, e) in
          ap (λ (l : List (List ℕ)). objects_in a b c d (modes_object layout l) f g batches id) (sym (same many)))
      | false ↦ λ e. put layout
    ]) refl
  where
    put : (l : Layout) → among (modes_put l new) id (objects_in a b c d (modes_object l old) f g batches id)
        ≡ objects_in a b c d (modes_object l new) f g batches id
    put First = refl
    put Second = fifth_object a b c d (modes_spelling new) (Some (modes_spelling old)) f g batches id

-- the object of a batch
pub object_batch : (w : Warehouse) (before : ℕ) → before < 65535
    → object_of w (65537 + before) ≡ segment_after before w.batches
object_batch w before low =
    object_after (dimension_of w.rows Customer) (dimension_of w.rows Supplier) (dimension_of w.rows Part)
    (dimension_of w.rows Date) (modes_object w.layout (ship_modes_of w)) segment_of (λ place. run_after place w.cuboids)
    w.batches before low

-- ---- a content that was made

abbrev first_bytes : Layout → List ℕ
first_bytes layout = roots.root_spelling (roots.first_root layout)

-- the objects that a warehouse is made of
objects_first : (rows : DimRows) (id : ℕ) (layout : Layout)
    → among (beginning_puts layout rows) id None ≡ object_of (fresh_in layout rows) id
objects_first rows id First =
    four_objects (dimension_of rows Customer) (dimension_of rows Supplier) (dimension_of rows Part)
    (dimension_of rows Date) segment_of id
objects_first rows id Second =
    ap (λ (o : Option (List ℕ)). if 5 == id then Some (modes_spelling []) else o)
    (four_objects (dimension_of rows Customer) (dimension_of rows Supplier) (dimension_of rows Part)
    (dimension_of rows Date) segment_of id)
    ∙ fifth_object (dimension_of rows Customer) (dimension_of rows Supplier) (dimension_of rows Part)
    (dimension_of rows Date) (modes_spelling []) None segment_of (λ _. None) [] id

pub represents_created : (layout : Layout) (rows : DimRows) → AreStorable rows
    → Represents (created (beginning_puts layout rows) (first_bytes layout) (layout_number layout))
    (fresh_in layout rows)
represents_created layout rows storable =
    let puts : List (ℕ × List ℕ) = beginning_puts layout rows in record {
      objects = λ id. bytes_created puts (first_bytes layout) (layout_number layout) id ∙ objects_first rows id layout;
      once = once_created puts (first_bytes layout) (layout_number layout);
      layout = layout_created puts (first_bytes layout) (layout_number layout);
      root = record {
        spelled = root_created puts (first_bytes layout) (layout_number layout);
        proper = root_proper (fresh_in layout rows) (in_order_none rows) (omega arith) (omega arith) (record {
          most = omega arith;
          each = All-nil (IsProperCuboid layout 0);
          ascending = AllPairs-nil (λ (one : StoredCuboid) (other : StoredCuboid). one.view < other.view);
        });
      };
      rows = storable;
      batches = in_order_none rows;
      modes = modes_none layout;
      cuboids = All-nil (HoldsGroupings (fresh_in layout rows));
    }

-- ---- one batch more

-- a run over the first batches is one over more
run_in_more : (w : Warehouse) (batch : List LineOrder) (span : Span) → span.to ≤ length w.batches
    → rows_in (w.batches ++ batch ∷ []) span ≡ rows_in w.batches span
run_in_more w batch span low =
    ap (λ (l : List (List LineOrder)). all_rows (drop span.from l)) (take-append-le span.to w.batches (batch ∷ []) low)

-- the runs of a cuboid end at its mark
ends_within : (from mark : ℕ) (runs : List StoredRun) → Follow from runs mark → All (λ run. IsSpan run.span) runs
    → (from ≤ mark) × All (λ run. run.span.to ≤ mark) runs
ends_within from mark [] follow spans = (omega (arith, follow), All-nil (λ run. run.span.to ≤ mark))
ends_within from mark (run ∷ runs) follow spans =
    let rest = ends_within run.span.to mark runs follow.1 (All-tail (λ r. IsSpan r.span) run runs spans) in
    let own = All-head (λ r. IsSpan r.span) run runs spans in
    (omega (arith, rest.0, own.some, follow.0), All-cons (λ r. r.span.to ≤ mark) run runs rest.0 rest.1)

-- the ship modes with those of one batch more
more_modes : (w : Warehouse) (batch : List LineOrder)
    → ship_modes_of (loaded w batch) ≡ kept_modes w.layout (all_rows w.batches ++ batch)
more_modes w batch = ap (kept_modes w.layout) (all_rows-last w.batches batch)

-- a cuboid holds what it held where a batch is added
groupings_more : (w : Warehouse) (batch : List LineOrder) (cuboid : Cuboid) → cuboid.mark ≤ length w.batches
    → HoldsGroupings w cuboid → HoldsGroupings (loaded w batch) cuboid
groupings_more w batch cuboid low holds = record {
  laid = record { follow = holds.laid.follow; spans = holds.laid.spans; proper = holds.laid.proper };
  groupings = λ k d within.
      let run = get_or cuboid.runs k d in
      let ends = (ends_within 0 cuboid.mark cuboid.runs holds.laid.follow holds.laid.spans).1 k d within in
      let more = modes_begin w.layout (all_rows w.batches) batch in
      subst (λ (l : List LineOrder). RepresentRows w.rows (ship_modes_of (loaded w batch)) l
      (cells_of cuboid.view run.cells))
      (sym (run_in_more w batch run.span (omega (arith, ends, low))))
      (subst (λ (modes : List (List ℕ)). RepresentRows w.rows modes (rows_in w.batches run.span)
      (cells_of cuboid.view run.cells)) (sym (more_modes w batch ∙ more.1))
      (they_still_represent w.rows (ship_modes_of w) more.0 (rows_in w.batches run.span)
      (cells_of cuboid.view run.cells) (holds.groupings k d within)));
}

-- a layout keeps a beginning of the ship modes that the second one keeps: all or none
beginning_kept : (layout : Layout) (rows : List LineOrder) → (rest : List (List ℕ))
    × (kept_modes Second rows ≡ kept_modes layout rows ++ rest)
beginning_kept First rows = (kept_modes Second rows, refl)
beginning_kept Second rows = ([], sym (append-nil (kept_modes Second rows)))

-- and where the warehouse moves to the second layout
pub groupings_moved : (w : Warehouse) (cuboid : Cuboid) → HoldsGroupings w cuboid → HoldsGroupings (migrated w) cuboid
groupings_moved w cuboid holds = record {
  laid = record { follow = holds.laid.follow; spans = holds.laid.spans; proper = holds.laid.proper };
  groupings = λ k d within.
      let run = get_or cuboid.runs k d in
      let more = beginning_kept w.layout (all_rows w.batches) in
      subst (λ (modes : List (List ℕ)). RepresentRows w.rows modes (rows_in w.batches run.span)
      (cells_of cuboid.view run.cells)) (sym more.1)
      (they_still_represent w.rows (ship_modes_of w) more.0 (rows_in w.batches run.span)
      (cells_of cuboid.view run.cells) (holds.groupings k d within));
}

-- the marks of stored cuboids, by the root
mark_within : (w : Warehouse) → IsProperRoot (root_of w) → All (λ cuboid. cuboid.mark ≤ length w.batches) w.cuboids
mark_within w proper = λ k d within.
    let said = proper.each k (said_of d) (omega (arith, within, length-map w.cuboids said_of)) in
    let same : get_or (map said_of w.cuboids) k (said_of d) ≡ said_of (get_or w.cuboids k d) =
    get_or-map said_of w.cuboids k d (said_of d) within in
    omega (arith, said.mark, ap (λ (s : StoredCuboid). s.mark) same, length-map w.batches length)

module _ (c : Content) (w : Warehouse) (number : ℕ) (batch : List LineOrder) (represents : Represents c w)
    (admits : AdmitsBatch w number batch) (fits : FitColumns batch) where
  admissible : IsAdmissible w.rows w.batches number batch
  admissible = admissible_in w.layout w.rows w.batches number batch admits

  abbrev bytes : List ℕ
  bytes = roots.root_spelling (root_of (loaded w batch))

  is_next : number ≡ length w.batches + 1
  is_next = next_number w.rows w.batches number batch admissible

  next : IsNext w.rows w.batches batch
  next = record {
    admissible = subst (λ (n : ℕ). IsAdmissible w.rows w.batches n batch) is_next admissible;
    fits = fits;
  }

  many : length (w.batches ++ batch ∷ []) ≡ length w.batches + 1
  many = length-append w.batches (batch ∷ [])

  in_order : AreInOrder w.rows (w.batches ++ batch ∷ [])
  in_order = in_order_more w.rows w.batches batch represents.batches next

  target : w.target ≤ length (w.batches ++ batch ∷ [])
  target = omega (arith, represents.root.proper.target, length-map w.batches length, many)

  few : number ≤ 65535
  few = omega (arith, is_next, many, few_batches w.rows (w.batches ++ batch ∷ []) in_order)

  marks : All (λ cuboid. cuboid.mark ≤ length w.batches) w.cuboids
  marks = mark_within w represents.root.proper

  proper_more : (cuboid : StoredCuboid) → IsProperCuboid w.layout (length (map length w.batches)) cuboid
      → IsProperCuboid w.layout (length (map length (w.batches ++ batch ∷ []))) cuboid
  proper_more cuboid is = record {
    view = is.view;
    mark = omega (arith, is.mark, length-map w.batches length, length-map (w.batches ++ batch ∷ []) length, many);
    no_run = is.no_run;
    most_runs = is.most_runs;
    most_cells = is.most_cells;
  }

  abbrev puts : List (ℕ × List ℕ)
  puts = loading_puts w number batch

  same_modes : length (ship_modes_of (loaded w batch)) ≡ length (ship_modes_of w)
      → ship_modes_of (loaded w batch) ≡ ship_modes_of w
  same_modes many =
      more_modes w batch
      ∙ modes_same w.layout (all_rows w.batches) batch (sym (ap length (more_modes w batch)) ∙ many)

  objects_loaded : (id : ℕ) → among puts id (bytes_of c id) ≡ object_of (loaded w batch) id
  objects_loaded id =
      ap (λ (o : Option (List ℕ)). among (new_modes_put w batch) id
      (if 65536 + number == id then Some (segment_of number batch) else o))
      (represents.objects id)
      ∙ ap (among (new_modes_put w batch) id)
      (one_more (dimension_of w.rows Customer) (dimension_of w.rows Supplier) (dimension_of w.rows Part)
      (dimension_of w.rows Date) (modes_object w.layout (ship_modes_of w)) segment_of
      (λ place. run_after place w.cuboids) w.batches batch number id is_next few)
      ∙ modes_again (dimension_of w.rows Customer) (dimension_of w.rows Supplier) (dimension_of w.rows Part)
      (dimension_of w.rows Date) segment_of (λ place. run_after place w.cuboids) (w.batches ++ batch ∷ [])
      w.layout (ship_modes_of w) (ship_modes_of (loaded w batch)) id same_modes

  pub represents_loaded : Represents (committed puts [] bytes (layout_number w.layout) c) (loaded w batch)
  represents_loaded = record {
    objects = λ id. bytes_after puts [] bytes (layout_number w.layout) c id ∙ objects_loaded id;
    once = once_after puts [] bytes (layout_number w.layout) c represents.once;
    layout = layout_after puts [] bytes (layout_number w.layout) c;
    root = record {
      spelled = root_after puts [] bytes (layout_number w.layout) c;
      proper = root_proper (loaded w batch) in_order target represents.root.proper.additions (record {
        most = represents.root.proper.most_cuboids;
        each = λ k d within. proper_more (get_or (map said_of w.cuboids) k d) (represents.root.proper.each k d within);
        ascending = represents.root.proper.ascending;
      });
    };
    rows = represents.rows;
    batches = in_order;
    modes = subst AreModes (sym (more_modes w batch))
        (modes_more w.layout w.rows w.batches number batch represents.batches represents.modes admits);
    cuboids = λ k d within. groupings_more w batch (get_or w.cuboids k d) (marks k d within)
        (represents.cuboids k d within);
  }

-- ---- a new target

pub represents_aimed : (c : Content) (w : Warehouse) → Represents c w
    → Represents (committed [] [] (roots.root_spelling (root_of (aimed w))) (layout_number w.layout) c) (aimed w)
represents_aimed c w represents =
    let bytes : List ℕ = roots.root_spelling (root_of (aimed w)) in record {
      objects = λ id. bytes_after [] [] bytes (layout_number w.layout) c id ∙ represents.objects id;
      once = once_after [] [] bytes (layout_number w.layout) c represents.once;
      layout = layout_after [] [] bytes (layout_number w.layout) c;
      root = record {
        spelled = root_after [] [] bytes (layout_number w.layout) c;
        proper = root_proper (aimed w) represents.batches (omega arith) represents.root.proper.additions (record {
          most = represents.root.proper.most_cuboids;
          each = represents.root.proper.each;
          ascending = represents.root.proper.ascending;
        });
      };
      rows = represents.rows;
      batches = represents.batches;
      modes = represents.modes;
      cuboids = λ k d within. let holds = represents.cuboids k d within in record {
        laid = record { follow = holds.laid.follow; spans = holds.laid.spans; proper = holds.laid.proper };
        groupings = holds.groupings;
      };
    }

-- the root with the batch is the root with its rows and its totals
pub root_loaded : (w : Warehouse) (batch : List LineOrder)
    → root_of (loaded w batch)
    ≡ roots.root_with_batch (length batch) (totals_of (all_rows (w.batches ++ batch ∷ []))) (root_of w)
root_loaded w batch =
    let lengths : map length (w.batches ++ batch ∷ []) ≡ map length w.batches ++ length batch ∷ [] =
    map-append length w.batches (batch ∷ []) in
    λ i. record {
      layout = w.layout;
      batches = lengths i;
      target = w.target;
      additions = w.additions;
      totals = totals_of (all_rows (w.batches ++ batch ∷ []));
      cuboids = map said_of w.cuboids;
    }

-- ---- what may be handed to the store

apart : (id : ℕ) (bytes : List ℕ) (puts : List (ℕ × List ℕ)) → All (λ (put : ℕ × List ℕ). id ≢ put.0) puts
    → AllPairs (λ (a : ℕ × List ℕ) (b : ℕ × List ℕ). a.0 ≢ b.0) puts
    → AllPairs (λ (a : ℕ × List ℕ) (b : ℕ × List ℕ). a.0 ≢ b.0) ((id, bytes) ∷ puts)
apart id bytes puts = AllPairs-cons (λ (a : ℕ × List ℕ) (b : ℕ × List ℕ). a.0 ≢ b.0) (id, bytes) puts

pub distinct_puts : (a b c d : List ℕ)
    → AllPairs (λ (a : ℕ × List ℕ) (b : ℕ × List ℕ). a.0 ≢ b.0) ((1, a) ∷ (2, b) ∷ (3, c) ∷ (4, d) ∷ [])
distinct_puts a b c d =
    apart 1 a ((2, b) ∷ (3, c) ∷ (4, d) ∷ [])
    (All-cons (λ (put : ℕ × List ℕ). 1 ≢ put.0) (2, b) ((3, c) ∷ (4, d) ∷ []) (λ e. omega (arith, e))
    (All-cons (λ (put : ℕ × List ℕ). 1 ≢ put.0) (3, c) ((4, d) ∷ []) (λ e. omega (arith, e))
    (All-cons (λ (put : ℕ × List ℕ). 1 ≢ put.0) (4, d) [] (λ e. omega (arith, e))
    (All-nil (λ (put : ℕ × List ℕ). 1 ≢ put.0)))))
    (apart 2 b ((3, c) ∷ (4, d) ∷ [])
    (All-cons (λ (put : ℕ × List ℕ). 2 ≢ put.0) (3, c) ((4, d) ∷ []) (λ e. omega (arith, e))
    (All-cons (λ (put : ℕ × List ℕ). 2 ≢ put.0) (4, d) [] (λ e. omega (arith, e))
    (All-nil (λ (put : ℕ × List ℕ). 2 ≢ put.0))))
    (apart 3 c ((4, d) ∷ [])
    (All-cons (λ (put : ℕ × List ℕ). 3 ≢ put.0) (4, d) [] (λ e. omega (arith, e))
    (All-nil (λ (put : ℕ × List ℕ). 3 ≢ put.0)))
    (apart 4 d [] (All-nil (λ (put : ℕ × List ℕ). 4 ≢ put.0))
    (AllPairs-nil (λ (a : ℕ × List ℕ) (b : ℕ × List ℕ). a.0 ≢ b.0)))))

-- the dimensions are puts
module _ (rows : DimRows) (storable : AreStorable rows) where
  pub dimensions_are_puts : ArePuts (dimension_puts rows)
  dimensions_are_puts =
      let c = good_on rows storable Customer in
      let s = good_on rows storable Supplier in
      let p = good_on rows storable Part in
      let d = good_on rows storable Date in record {
        each =
            All-cons IsObject (1, dimension_of rows Customer)
            ((2, dimension_of rows Supplier) ∷ (3, dimension_of rows Part) ∷ (4, dimension_of rows Date) ∷ [])
            (record {
              least = dimension_least Customer (rows_on rows Customer) c;
              most = dimension_most Customer (rows_on rows Customer) c;
            })
            (All-cons IsObject (2, dimension_of rows Supplier)
            ((3, dimension_of rows Part) ∷ (4, dimension_of rows Date) ∷ [])
            (record {
              least = dimension_least Supplier (rows_on rows Supplier) s;
              most = dimension_most Supplier (rows_on rows Supplier) s;
            })
            (All-cons IsObject (3, dimension_of rows Part) ((4, dimension_of rows Date) ∷ [])
            (record {
              least = dimension_least Part (rows_on rows Part) p;
              most = dimension_most Part (rows_on rows Part) p;
            })
            (All-cons IsObject (4, dimension_of rows Date) []
            (record {
              least = dimension_least Date (rows_on rows Date) d;
              most = dimension_most Date (rows_on rows Date) d;
            }) (All-nil IsObject))));
        distinct = distinct_puts (dimension_of rows Customer) (dimension_of rows Supplier) (dimension_of rows Part)
            (dimension_of rows Date);
      }

-- a batch is a put
pub batch_is_put : (number : ℕ) (batch : List LineOrder) → IsBatch batch → ArePuts (batch_put number batch)
batch_is_put number batch is = one_put (segment_id number) (segment_of number batch) (segment_least number batch)
    (segment_most number batch is)

AllPairs-snoc : {A : Type 0} (R : A → A → Type 0) (xs : List A) (y : A) → AllPairs R xs → All (λ x. R x y) xs
    → AllPairs R (xs ++ y ∷ [])
AllPairs-snoc R [] y pairs all = AllPairs-cons R y [] (All-nil (R y)) (AllPairs-nil R)
AllPairs-snoc {A} R (x ∷ xs) y pairs all =
    AllPairs-cons R x (xs ++ y ∷ [])
    (All-append (R x) xs (y ∷ []) (AllPairs-head R x xs pairs)
    (All-cons (R x) y [] (All-head (λ (z : A). R z y) x xs all) (All-nil (R x))))
    (AllPairs-snoc R xs y (AllPairs-tail R x xs pairs) (All-tail (λ (z : A). R z y) x xs all))

modes_is_object : (modes : List (List ℕ)) → AreModes modes → IsObject (5, modes_spelling modes)
modes_is_object modes are = record { least = modes_spelling-least modes; most = modes_spelling-most modes are }

-- puts below 5, and the object of ship modes in a layout
with_modes_put : (puts : List (ℕ × List ℕ)) (layout : Layout) (modes : List (List ℕ)) → AreModes modes → ArePuts puts
    → All (λ (put : ℕ × List ℕ). put.0 ≢ 5) puts → ArePuts (puts ++ modes_put layout modes)
with_modes_put puts First modes are those apart = subst ArePuts (sym (append-nil puts)) those
with_modes_put puts Second modes are those apart = record {
  each = All-append IsObject puts ((5, modes_spelling modes) ∷ []) those.each
      (All-cons IsObject (5, modes_spelling modes) [] (modes_is_object modes are) (All-nil IsObject));
  distinct = AllPairs-snoc (λ (a : ℕ × List ℕ) (b : ℕ × List ℕ). a.0 ≢ b.0) puts (5, modes_spelling modes)
      those.distinct apart;
}

-- what a warehouse is made of can be put
pub beginning_is_put : (rows : DimRows) → ArePuts (dimension_puts rows) → (layout : Layout)
    → ArePuts (beginning_puts layout rows)
beginning_is_put rows those layout =
    with_modes_put (dimension_puts rows) layout [] (subst AreModes (nothing_kept layout) (modes_none layout)) those
    (All-cons (λ (put : ℕ × List ℕ). put.0 ≢ 5) (1, dimension_of rows Customer)
    ((2, dimension_of rows Supplier) ∷ (3, dimension_of rows Part) ∷ (4, dimension_of rows Date) ∷ [])
    (λ e. omega (arith, e))
    (All-cons (λ (put : ℕ × List ℕ). put.0 ≢ 5) (2, dimension_of rows Supplier)
    ((3, dimension_of rows Part) ∷ (4, dimension_of rows Date) ∷ []) (λ e. omega (arith, e))
    (All-cons (λ (put : ℕ × List ℕ). put.0 ≢ 5) (3, dimension_of rows Part)
    ((4, dimension_of rows Date) ∷ []) (λ e. omega (arith, e))
    (All-cons (λ (put : ℕ × List ℕ). put.0 ≢ 5) (4, dimension_of rows Date) [] (λ e. omega (arith, e))
    (All-nil (λ (put : ℕ × List ℕ). put.0 ≢ 5))))))

-- a segment and ship modes are puts
pub segment_and_modes : (number : ℕ) (batch : List LineOrder) (modes : List (List ℕ)) → IsBatch batch → AreModes modes
    → ArePuts ((segment_id number, segment_of number batch) ∷ (5, modes_spelling modes) ∷ [])
segment_and_modes number batch modes is are =
    with_modes_put (batch_put number batch) Second modes are (batch_is_put number batch is)
    (All-cons (λ (put : ℕ × List ℕ). put.0 ≢ 5) (segment_id number, segment_of number batch) []
    (λ e. omega (arith, e)) (All-nil (λ (put : ℕ × List ℕ). put.0 ≢ 5)))

-- and what a submit puts
pub loading_is_put : (c : Content) (w : Warehouse) (number : ℕ) (batch : List LineOrder) → Represents c w
    → AdmitsBatch w number batch → ArePuts (loading_puts w number batch)
loading_is_put c w number batch represents admits =
    (elim (length (ship_modes_of (loaded w batch)) == length (ship_modes_of w)) as
    (λ (t : Bool). ArePuts
    (batch_put number batch ++ (if t then [] else modes_put w.layout (ship_modes_of (loaded w batch))))) [
      | true ↦ subst ArePuts (sym (append-nil (batch_put number batch))) one
      | false ↦ with_modes_put (batch_put number batch) w.layout (ship_modes_of (loaded w batch))
          (subst AreModes (sym (more_modes w batch))
          (modes_more w.layout w.rows w.batches number batch represents.batches represents.modes admits)) one
          (All-cons (λ (put : ℕ × List ℕ). put.0 ≢ 5) (segment_id number, segment_of number batch) []
          (λ e. omega (arith, e)) (All-nil (λ (put : ℕ × List ℕ). put.0 ≢ 5)))
    ])
  where
    one : ArePuts (batch_put number batch)
    one = batch_is_put number batch
        (is_batch w.rows w.batches number batch (admissible_in w.layout w.rows w.batches number batch admits))

-- ---- what a content says

pub has_rows : (c : Content) (w : Warehouse) → Represents c w → HasRows c w.rows
has_rows c w represents =
    record {
      customers = represents.objects 1;
      suppliers = represents.objects 2;
      parts = represents.objects 3;
      dates = represents.objects 4;
    }

pub rows_one : (c : Content) (rows others : DimRows) → AreStorable rows → AreStorable others
    → HasRows c rows → HasRows c others → rows ≡ others
rows_one c rows others storable also has have =
    same_rows rows others storable also
    (some_one _ _ (sym has.customers ∙ have.customers)) (some_one _ _ (sym has.suppliers ∙ have.suppliers))
    (some_one _ _ (sym has.parts ∙ have.parts)) (some_one _ _ (sym has.dates ∙ have.dates))

batches_same : {A : Type 0} (xs ys : List A) → length xs ≡ length ys
    → ((k : ℕ) (x y : A) → slice_get xs k ≡ Some x → slice_get ys k ≡ Some y → x ≡ y) → xs ≡ ys
batches_same [] [] many same = refl
batches_same [] (y ∷ ys) many same = absurd (omega (arith, many))
batches_same (x ∷ xs) [] many same = absurd (omega (arith, many))
batches_same (x ∷ xs) (y ∷ ys) many same =
    λ i. same 0 x y refl refl i ∷ batches_same xs ys (omega (arith, many)) (λ k. same (suc k)) i
