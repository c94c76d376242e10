-- What was made for a commit brings a cuboid on.
use Rattle.std.proofs.Common.{◌≡◌, inl, inr, ◌≤◌, ◌<◌, ◌+◌, ◌-◌, ◌*◌, zero, suc, ℕ, Bool, true, false, Some, List, []}
use Rattle.std.proofs.Common.{◌∷◌, ◌++◌, length, take, drop, All, refl, sym, ◌∙◌, ap, subst, arith, length-append}
use Rattle.std.specs.List.{range_with_len}
use Rattle.std.proofs.lemmas.List.{length-map}
use Rattle.std.proofs.lemmas.List.Elements.{All-append, All-cons, All-nil}
use Rattle.std.proofs.lemmas.List.Sums.{sum_by_push}
use Rattle.cube_model.specs.Admission.{all_rows}
use Rattle.cube_model.specs.declared.rows.LineOrder.{LineOrder}
use Rattle.lattice.specs.declared.view.View.{View}
use Rattle.lattice.specs.Views.{index_of}
use Rattle.lattice.proofs.Places.{one_view}
use Rattle.cuboid_cells.specs.declared.cell.Cell.{Cell}
use Rattle.cuboid_cells.specs.declared.span.Span.{Span}
use Rattle.cuboid_cells.specs.Cells.{AreProperCells, PlainCells}
use Rattle.cuboid_cells.specs.Spelled.{IsRun, IsSpan, cell_bytes, run_of}
use Rattle.cuboid_cells.specs.Steps.{cells_of}
use Rattle.cuboid_cells.proofs.CallerLemmas.{length-run_of}
use Rattle.cuboid_upkeep.specs.Grouping.{RepresentRows}
use Rattle.object_store.specs.Commit.{ArePuts}
use Rattle.object_store.proofs.CallerLemmas.{one_put}
use Rattle.warehouse_root.specs.declared.cuboid.StoredCuboid.{StoredCuboid}
use Rattle.cuboid_cells.specs.Limits.{most_cells}
use Rattle.warehouse_root.specs.Limits.{most_runs}
use Rattle.warehouse_root.specs.Objects.{run_id}
use Rattle.warehouse_root.specs.Root.{PlainRoot}
use Rattle.warehouse_objects.specs.Warehouse.{Cuboid, StoredRun, Warehouse, cell_count, cuboid_at, ship_modes_of}
use Rattle.warehouse_objects.specs.Represents.{Follow, rows_in}
use Rattle.stored_cuboids.specs.Nexts.{BringsOn, RaisesMarks, HasStored, IsMade, IsNextStep, first_run}
use Rattle.stored_cuboids.specs.declared.keeping.Next.{Next}
use Rattle.stored_cuboids.proofs.Places.{root_kept}
use Rattle.stored_cuboids.proofs.Spans.{follow_more}

-- ---- whatever the warehouse is

few_bytes : (grouped : Bool) (n : ℕ) → n ≤ 262144 → 20 + cell_bytes grouped * n ≤ 134217728
few_bytes true n few = omega (arith, few)
few_bytes false n few = omega (arith, few)

pub made_put : (root : PlainRoot) (after : StoredCuboid) (id : ℕ) (span : Span) (cells : PlainCells) (drops : List ℕ)
    (next : Next) → IsMade root after id span cells drops next
    → ArePuts ((next.id, next.bytes.items) ∷ [])
made_put root after id span cells drops next made =
    let many = ap length made.bytes.spelled ∙ length-run_of span cells in
    one_put next.id next.bytes.items (omega (arith, many))
    (omega (arith, many, few_bytes cells.view.ship_mode (length cells.cells) made.bytes.proper.rules.few))

range_above : (least a n : ℕ) → least ≤ a → All (λ id. least ≤ id) (range_with_len a n)
range_above least a zero le = All-nil (λ id. least ≤ id)
range_above least a (suc n) le =
    All-cons (λ id. least ≤ id) a (range_with_len (a + 1) n) le (range_above least (a + 1) n (omega (arith, le)))

pub made_runs : (id view run : ℕ) (drops : List ℕ) (n : ℕ) → id ≡ run_id view run
    → drops ≡ range_with_len (run_id view 1) n → All (λ id. first_run ≤ id) (id ∷ drops)
made_runs id view run drops n id_is drops_are =
    All-cons (λ i. first_run ≤ i) id drops (omega (arith, id_is))
    (subst (λ (l : List ℕ). All (λ i. first_run ≤ i) l) (sym drops_are)
    (range_above first_run (run_id view 1) n (omega arith)))

pub range_more : (first count : ℕ) → range_with_len first (suc count) ≡ range_with_len first count ++ (first + count)
    ∷ []
range_more first zero = let same : first ≡ first + 0 = omega arith in ap (λ (n : ℕ). n ∷ []) same
range_more first (suc count) =
    let next : first + 1 + count ≡ first + suc count = omega arith in
    ap (λ (rest : List ℕ). first ∷ rest)
    (range_more (first + 1) count ∙ ap (λ (last : ℕ). range_with_len (first + 1) count ++ last ∷ []) next)

-- ---- what becomes of a cuboid

abbrev pub run_over : Span → List Cell → StoredRun
run_over span cells = record { span = span; cells = cells }

-- it has the run after the others
abbrev pub appending : Span → List Cell → Cuboid → Cuboid
appending span cells cuboid =
    record {
      view = cuboid.view;
      mark = cuboid.mark + (span.to - cuboid.mark);
      runs = cuboid.runs ++ run_over span cells
          ∷ [];
    }

-- it has the run alone
abbrev pub replacing : Span → List Cell → Cuboid → Cuboid
replacing span cells cuboid =
    record { view = cuboid.view; mark = cuboid.mark + (span.to - cuboid.mark); runs = run_over span cells ∷ [] }

pub appending_goes_on : (span : Span) (cells : List Cell) → RaisesMarks (appending span cells)
appending_goes_on span cells = record { view = λ cuboid. refl; mark = λ cuboid. omega arith }

pub replacing_goes_on : (span : Span) (cells : List Cell) → RaisesMarks (replacing span cells)
replacing_goes_on span cells = record { view = λ cuboid. refl; mark = λ cuboid. omega arith }

module _ (w : Warehouse) (root : PlainRoot) (said : StoredCuboid) (old : Cuboid) (has : HasStored root said w old)
    (cells : PlainCells) (span : Span) (next : Next)
    (after : StoredCuboid) (id : ℕ) (drops : List ℕ) (made : IsMade root after id span cells drops next)
    (view : index_of cells.view ≡ said.view) (above : said.mark < span.to) (within : span.to ≤ length root.batches)
    (after_view : after.view ≡ said.view) (after_mark : after.mark ≡ span.to) where
  view_is : cells.view ≡ old.view
  view_is = one_view cells.view old.view (view ∙ ap (λ (s : StoredCuboid). s.view) (sym has.said_is))

  mark_is : old.mark + (span.to - old.mark) ≡ span.to
  mark_is = let same : old.mark ≡ said.mark = ap (λ (s : StoredCuboid). s.mark) has.said_is in
      omega (arith, same, above)

  count : length root.batches ≡ length w.batches
  count = ap (λ (r : PlainRoot). length r.batches) has.root_is ∙ length-map w.batches length

  stored : cuboid_at (index_of old.view) w.cuboids ≡ Some old
  stored = ap (λ (s : StoredCuboid). cuboid_at s.view w.cuboids) has.said_is ∙ has.found

  bytes_are : (bytes : List ℕ) → IsRun bytes span cells → bytes ≡ run_of span (cells_of old.view cells.cells)
  bytes_are bytes is = is.spelled ∙ ap (λ (v : View). run_of span (cells_of v cells.cells)) view_is

  proper_here : AreProperCells cells → AreProperCells (cells_of old.view cells.cells)
  proper_here proper = subst (λ (v : View). AreProperCells (cells_of v cells.cells)) view_is proper

  represent_here : (rows : List LineOrder) → RepresentRows w.rows (ship_modes_of w) rows cells
      → RepresentRows w.rows (ship_modes_of w) rows (cells_of old.view cells.cells)
  represent_here rows represent =
      subst (λ (v : View). RepresentRows w.rows (ship_modes_of w) rows (cells_of v cells.cells))
      view_is represent

  -- a run after the others
  pub append_brings : after.runs ≡ said.runs + 1 → after.cells ≡ said.cells + length cells.cells
      → id ≡ run_id said.view said.runs → drops ≡ []
      → span.from ≡ said.mark → said.runs < most_runs → said.cells + length cells.cells ≤ most_cells
      → RepresentRows w.rows (ship_modes_of w) (rows_in w.batches span) cells
      → BringsOn w old (appending span cells.cells old) (run_over span cells.cells) next
  append_brings after_runs after_cells id_is drops_are from few few_cells represent = record {
    may = record {
      stored = stored;
      view = refl;
      holds = record {
        laid = record {
          follow =
              subst (λ (m : ℕ). Follow 0 (old.runs ++ run_over span cells.cells ∷ []) m) (sym mark_is)
              (follow_more 0 old.runs old.mark (run_over span cells.cells) has.holds.laid.follow
              (from ∙ ap (λ (s : StoredCuboid). s.mark) (sym has.said_is)));
          spans = All-append (λ run. IsSpan run.span) old.runs (run_over span cells.cells ∷ []) has.holds.laid.spans
              (All-cons (λ run. IsSpan run.span) (run_over span cells.cells) [] made.bytes.span
              (All-nil (λ run. IsSpan run.span)));
          proper =
              All-append (λ run. AreProperCells (cells_of old.view run.cells)) old.runs (run_over span cells.cells ∷ [])
              has.holds.laid.proper
              (All-cons (λ run. AreProperCells (cells_of old.view run.cells)) (run_over span cells.cells) []
              (proper_here made.bytes.proper) (All-nil (λ run. AreProperCells (cells_of old.view run.cells))));
        };
        groupings =
            All-append (λ run. RepresentRows w.rows (ship_modes_of w) (rows_in w.batches run.span)
            (cells_of old.view run.cells)) old.runs (run_over span cells.cells ∷ []) has.holds.groupings
            (All-cons (λ run. RepresentRows w.rows (ship_modes_of w) (rows_in w.batches run.span)
            (cells_of old.view run.cells)) (run_over span cells.cells) []
            (represent_here (rows_in w.batches span) represent)
            (All-nil (λ run. RepresentRows w.rows (ship_modes_of w) (rows_in w.batches run.span)
            (cells_of old.view run.cells))));
      };
      some = omega (arith, mark_is, above);
      within = omega (arith, mark_is, within, count);
      few = omega (arith, many_runs, few);
      cells = omega (arith, many_cells, few_cells);
    };
    how = inl (record {
      runs = refl;
      id = made.id_is ∙ id_is ∙ (λ i. run_id (sym view_said i) (sym runs_said i));
      drops = made.drops_are ∙ drops_are;
    });
    bytes = bytes_are next.bytes.items made.bytes;
    root = made.root_is ∙ root_kept w (appending span cells.cells old) root after has.root_is
        (λ i. record {
          view = (view_said ∙ sym after_view) i;
          runs = (many_runs ∙ sym after_runs) i;
          mark = (mark_is ∙ sym after_mark) i;
          cells = (many_cells ∙ sym after_cells) i;
        });
    spelled = made.spelled;
  }
    where
      view_said : index_of old.view ≡ said.view
      view_said = ap (λ (s : StoredCuboid). s.view) has.said_is

      runs_said : length old.runs ≡ said.runs
      runs_said = ap (λ (s : StoredCuboid). s.runs) has.said_is

      many_runs : length (old.runs ++ run_over span cells.cells ∷ []) ≡ said.runs + 1
      many_runs = length-append old.runs (run_over span cells.cells ∷ []) ∙ ap (λ (n : ℕ). n + 1) runs_said

      many_cells : cell_count (old.runs ++ run_over span cells.cells ∷ []) ≡ said.cells + length cells.cells
      many_cells = sum_by_push (λ (run : StoredRun). length run.cells) old.runs (run_over span cells.cells)
          ∙ ap (λ (s : StoredCuboid). s.cells + length cells.cells) has.said_is

  -- one run in the place of all
  pub replace_brings : after.runs ≡ 1 → after.cells ≡ length cells.cells → id ≡ run_id said.view 0
      → drops ≡ range_with_len (run_id said.view 1) (said.runs - 1)
      → span.from ≡ 0 → RepresentRows w.rows (ship_modes_of w) (all_rows (take span.to w.batches)) cells
      → BringsOn w old (replacing span cells.cells old) (run_over span cells.cells) next
  replace_brings after_runs after_cells id_is drops_are from represent = record {
    may = record {
      stored = stored;
      view = refl;
      holds = record {
        laid = record {
          follow = (from, mark_is);
          spans = All-cons (λ run. IsSpan run.span) (run_over span cells.cells) [] made.bytes.span
              (All-nil (λ run. IsSpan run.span));
          proper = All-cons (λ run. AreProperCells (cells_of old.view run.cells)) (run_over span cells.cells) []
              (proper_here made.bytes.proper) (All-nil (λ run. AreProperCells (cells_of old.view run.cells)));
        };
        groupings =
            All-cons (λ run. RepresentRows w.rows (ship_modes_of w) (rows_in w.batches run.span)
            (cells_of old.view run.cells)) (run_over span cells.cells) []
            (represent_here (rows_in w.batches span)
            (subst (λ (n : ℕ). RepresentRows w.rows (ship_modes_of w) (all_rows (drop n (take span.to w.batches)))
            cells)
            (sym from) represent))
            (All-nil (λ run. RepresentRows w.rows (ship_modes_of w) (rows_in w.batches run.span)
            (cells_of old.view run.cells)));
      };
      some = omega (arith, mark_is, above);
      within = omega (arith, mark_is, within, count);
      few = omega arith;
      cells = omega (arith, many_cells, made.bytes.proper.rules.few);
    };
    how = inr (record {
      runs = refl;
      id = made.id_is ∙ id_is ∙ ap (λ (n : ℕ). run_id n 0) (sym view_said);
      drops = made.drops_are ∙ drops_are ∙ (λ i. range_with_len (run_id (sym view_said i) 1) (sym runs_said i - 1));
    });
    bytes = bytes_are next.bytes.items made.bytes;
    root = made.root_is ∙ root_kept w (replacing span cells.cells old) root after has.root_is
        (λ i. record {
          view = (view_said ∙ sym after_view) i;
          runs = sym after_runs i;
          mark = (mark_is ∙ sym after_mark) i;
          cells = (many_cells ∙ sym after_cells) i;
        });
    spelled = made.spelled;
  }
    where
      view_said : index_of old.view ≡ said.view
      view_said = ap (λ (s : StoredCuboid). s.view) has.said_is

      runs_said : length old.runs ≡ said.runs
      runs_said = ap (λ (s : StoredCuboid). s.runs) has.said_is

      many_cells : cell_count (run_over span cells.cells ∷ []) ≡ length cells.cells
      many_cells = let push = sum_by_push (λ (run : StoredRun). length run.cells) [] (run_over span cells.cells) in
          omega (arith, push)

-- ---- of each warehouse

module _ (root : PlainRoot) (said : StoredCuboid) (cells : PlainCells) (span : Span) (next : Next)
    (after : StoredCuboid) (id : ℕ) (drops : List ℕ) (made : IsMade root after id span cells drops next)
    (view : index_of cells.view ≡ said.view) (above : said.mark < span.to) (within : span.to ≤ length root.batches)
    (after_view : after.view ≡ said.view) (after_mark : after.mark ≡ span.to) where
  pub next_appended : after.runs ≡ said.runs + 1 → after.cells ≡ said.cells + length cells.cells
      → id ≡ run_id said.view said.runs → drops ≡ []
      → span.from ≡ said.mark → said.runs < most_runs → said.cells + length cells.cells ≤ most_cells
      → IsNextStep (λ w. RepresentRows w.rows (ship_modes_of w) (rows_in w.batches span) cells) root said span.to next
  next_appended after_runs after_cells id_is drops_are from few few_cells = record {
    put = made_put root after id span cells drops next made;
    runs = made_runs next.id said.view said.runs next.drops.items 0 (made.id_is ∙ id_is) (made.drops_are ∙ drops_are);
    spelled = made.spelled;
    after = after;
    view = after_view;
    mark_is = after_mark;
    root_is = made.root_is;
    change = appending span cells.cells;
    goes_on = appending_goes_on span cells.cells;
    reaches = λ cuboid less. omega (arith, less);
    brings = λ w old has represent. (
      run_over span cells.cells,
      append_brings w root said old has cells span next after id drops made view above within after_view after_mark
          after_runs after_cells id_is drops_are from few few_cells represent,
    );
  }

  pub next_replaced : after.runs ≡ 1 → after.cells ≡ length cells.cells → id ≡ run_id said.view 0
      → drops ≡ range_with_len (run_id said.view 1) (said.runs - 1) → span.from ≡ 0
      → IsNextStep (λ w. RepresentRows w.rows (ship_modes_of w) (all_rows (take span.to w.batches)) cells) root said
      span.to
      next
  next_replaced after_runs after_cells id_is drops_are from = record {
    put = made_put root after id span cells drops next made;
    runs = made_runs next.id said.view 0 next.drops.items (said.runs - 1) (made.id_is ∙ id_is)
        (made.drops_are ∙ drops_are);
    spelled = made.spelled;
    after = after;
    view = after_view;
    mark_is = after_mark;
    root_is = made.root_is;
    change = replacing span cells.cells;
    goes_on = replacing_goes_on span cells.cells;
    reaches = λ cuboid less. omega (arith, less);
    brings = λ w old has represent. (
      run_over span cells.cells,
      replace_brings w root said old has cells span next after id drops made view above within after_view after_mark
          after_runs after_cells id_is drops_are from represent,
    );
  }

-- what holds of fewer warehouses
pub next_weaker : (Holds Less : Warehouse → Type 0) (root : PlainRoot) (said : StoredCuboid) (mark : ℕ) (next : Next)
    → ((w : Warehouse) (old : Cuboid) → HasStored root said w old → Less w → Holds w)
    → IsNextStep Holds root said mark next
    → IsNextStep Less root said mark next
next_weaker Holds Less root said mark next so is = record {
  put = is.put;
  runs = is.runs;
  spelled = is.spelled;
  after = is.after;
  view = is.view;
  mark_is = is.mark_is;
  root_is = is.root_is;
  change = is.change;
  goes_on = is.goes_on;
  reaches = is.reaches;
  brings = λ w old has less. is.brings w old has (so w old has less);
}
