-- The runs of a cuboid, counted into a fold one after another.
use Rattle.std.proofs.Common.{◌≡◌, ◌∙◌, zero, suc, sym, ap, subst, arith, ℕ, ◌<◌, ◌≤◌, List, [], ◌∷◌, ◌++◌, length}
use Rattle.std.proofs.Common.{take, get_or, slice_get, Option, Some, All}
use Rattle.std.proofs.lemmas.List.Elements.{All-tail}
use Rattle.std.proofs.lemmas.Option.{get_or_from_slice_get, slice_get_within}
use Rattle.cube_model.specs.Admission.{all_rows}
use Rattle.cube_model.specs.declared.rows.DimRows.{DimRows}
use Rattle.cube_model.specs.declared.rows.LineOrder.{LineOrder}
use Rattle.cube_query.specs.Groups.{CanTake, FoldState, RepresentsRows}
use Rattle.group_tallies.specs.Limits.{AreFoldable}
use Rattle.cuboid_cells.specs.Cells.{PlainCells}
use Rattle.cuboid_cells.specs.declared.cell.Cell.{Cell}
use Rattle.cuboid_cells.specs.declared.span.Span.{Span}
use Rattle.cuboid_cells.specs.Pieces.{AreLeft, IsAtFirst, RunPlace}
use Rattle.cuboid_cells.specs.Spelled.{IsSpan}
use Rattle.cuboid_cells.specs.Steps.{cells_of}
use Rattle.cuboid_cells.specs.declared.head.RunHead.{RunHead}
use Rattle.cube_query.specs.CellRuns.{TakesRun}
use Rattle.cuboid_upkeep.specs.Grouping.{RepresentRows}
use Rattle.lattice.specs.declared.view.View.{View}
use Rattle.object_store.specs.Content.{Content, bytes_of}
use Rattle.warehouse_root.specs.Objects.{run_id}
use Rattle.warehouse_objects.proofs.CallerLemmas.{foldable, laid_of}
use Rattle.warehouse_objects.specs.Represents.{AreItsMembers, Follow, HoldsGroupings, IsLaidOut, Represents, rows_in}
use Rattle.warehouse_objects.specs.Warehouse.{Cuboid, StoredRun, Warehouse, cuboid_at, ship_modes_of}
use Rattle.stored_cuboids.specs.Counted.{AreCounted, CountsRun}
use Rattle.stored_cuboids.specs.Steps.{AreRead, GoesOn, ObjectIsRun, IsNextRun}
use Rattle.stored_cuboids.specs.declared.reading.Progress.{Progress}
use Rattle.stored_cuboids.proofs.Represented.{follow_up, rows_after}
use Rattle.stored_cuboids.proofs.StoredRuns.{IsAt, begins, has_run, is_at, is_proper, read_more, read_to}

-- no run goes beyond the mark
ends_within : (from : ℕ) (runs : List StoredRun) (r : ℕ) (run : StoredRun) (mark : ℕ) → slice_get runs r ≡ Some run
    → Follow from runs mark → All (λ x. IsSpan x.span) runs → run.span.to ≤ mark
ends_within from [] r run mark here follow spans = absurd cc
ends_within from (first ∷ runs) zero run mark here follow spans =
    let same : first ≡ run = cc in
    subst (λ (x : StoredRun). x.span.to ≤ mark) same
    (follow_up first.span.to runs mark follow.1 (All-tail (λ (x : StoredRun). IsSpan x.span) first runs spans))
ends_within from (first ∷ runs) (suc r) run mark here follow spans =
    ends_within first.span.to runs r run mark here follow.1
    (All-tail (λ (x : StoredRun). IsSpan x.span) first runs spans)

module _ (c : Content) (w : Warehouse) (view : ℕ) (stored : Cuboid) (represents : Represents c w)
    (found : cuboid_at view w.cuboids ≡ Some stored) where
  abbrev at : IsAt w.cuboids view stored
  at = is_at w.cuboids view stored found

  abbrev laid : IsLaidOut c w
  laid = laid_of c w represents

  holds : HoldsGroupings w stored
  holds = subst (HoldsGroupings w) at.is (represents.cuboids at.place stored at.within)

  module _ (r : ℕ) (run : StoredRun) (here : slice_get stored.runs r ≡ Some run) (dims : DimRows)
      (modes : List (List ℕ)) (same : AreItsMembers w dims modes) (so_far : Progress)
      (read : AreRead stored r so_far) where
    inside : r < length stored.runs
    inside = slice_get_within stored.runs r run here

    this : (d : StoredRun) → get_or stored.runs r d ≡ run
    this d = get_or_from_slice_get stored.runs r run d here

    span : IsSpan run.span
    span = subst (λ (x : StoredRun). IsSpan x.span) (this run) (holds.laid.spans r run inside)

    -- the cells of the run represent the rows of its batches
    pub grouping : RepresentRows dims modes (rows_in w.batches run.span) (cells_of stored.view run.cells)
    grouping =
        subst (λ (m : List (List ℕ)). RepresentRows dims m (rows_in w.batches run.span)
        (cells_of stored.view run.cells)) (sym same.modes)
        (subst (λ (rows : DimRows). RepresentRows rows (ship_modes_of w) (rows_in w.batches run.span)
        (cells_of stored.view run.cells)) (sym same.rows)
        (subst (λ (x : StoredRun). RepresentRows w.rows (ship_modes_of w) (rows_in w.batches x.span)
        (cells_of stored.view x.cells)) (this run) (holds.groupings r run inside)))

    -- which come after those of the runs so far
    rows_next : all_rows (take so_far.end w.batches) ++ rows_in w.batches run.span
        ≡ all_rows (take run.span.to w.batches)
    rows_next =
        ap (λ (n : ℕ). all_rows (take n w.batches) ++ rows_in w.batches run.span)
        (sym (begins c w view stored laid found r run here so_far read))
        ∙ rows_after w.batches run.span.from run.span.to (omega (arith, span.some))

    module _ (fold : FoldState) (so_far_represents : RepresentsRows dims fold (all_rows (take so_far.end w.batches)))
      where
        -- the run was counted
        pub counted_more : (own : View) (new : FoldState) (next : Progress)
            → CountsRun c (run_id view r) own so_far dims modes fold new next
            → AreCounted w stored dims (suc r) new next
        counted_more own new next counts =
            let cells : PlainCells = cells_of stored.view run.cells in
            let there = has_run c w view stored laid found r run here in
            let both = counts.takes run.span cells there in
            let goes : IsNextRun c (run_id view r) own so_far cells next =
            record {
              span = run.span;
              there = there;
              goes_on =
                  subst (λ (head : RunHead). GoesOn own so_far head next) both.0 counts.goes_on;
            } in
            let to = read_to c w view stored laid found r run here so_far read own cells next goes in
            let takes = both.1 (rows_in w.batches run.span) grouping in
            record {
              read = read_more c w view stored laid found r run here so_far read own cells next goes;
              represents = subst (λ (n : ℕ). RepresentsRows dims new (all_rows (take n w.batches))) (sym to)
                  (subst (λ (rows : List LineOrder). RepresentsRows dims new rows) rows_next
                  (takes.represents (all_rows (take so_far.end w.batches)) so_far_represents));
            }

        -- the fold can take its rows
        pub can_count : CanTake dims fold (rows_in w.batches run.span)
        can_count =
            let ends = ends_within 0 stored.runs r run stored.mark here holds.laid.follow holds.laid.spans in
            let within : run.span.to ≤ length w.batches =
            omega (arith, ends, (is_proper c w view stored laid found).mark) in (
              all_rows (take so_far.end w.batches),
              (
                so_far_represents,
                subst (λ (d : DimRows). AreFoldable d
                    (all_rows (take so_far.end w.batches) ++ rows_in w.batches run.span)) (sym same.rows)
                    (subst (λ (rows : List LineOrder). AreFoldable w.rows rows) (sym rows_next)
                    (foldable w.rows w.batches represents.batches run.span.to within)),
              ),
            )

-- ---- a run that is counted as it is read
-- the header of the next run goes on
pub head_goes_on : (content : Content) (id : ℕ) (view : View) (at : Progress) (run : RunPlace)
    → IsAtFirst (bytes_of content id) run → (cells : PlainCells) (next : Progress)
    → IsNextRun content id view at cells next
    → GoesOn view at run.head next
head_goes_on content id view at run first cells next goes =
    subst (λ (head : RunHead). GoesOn view at head next) (sym (first goes.span cells goes.there).0) goes.goes_on

module _ (content now : Content) (same : now ≡ content) (id : ℕ) (view : View) (at : Progress) (run : RunPlace)
    (own : run.id ≡ id) (first : IsAtFirst (bytes_of content id) run) where
  abbrev text_is : bytes_of now run.id ≡ bytes_of content id
  text_is = ap (λ (c : Content). bytes_of c run.id) same ∙ ap (bytes_of content) own

  -- the cells that are left are those of the run
  all_left : (span : Span) (cells : PlainCells) → ObjectIsRun content id span cells
      → AreLeft (bytes_of now run.id) run cells.cells
  all_left span cells is = subst (λ (text : Option (List ℕ)). AreLeft text run cells.cells) (sym text_is)
      (first span cells is).1

  in_view : (span : Span) (cells : PlainCells) → ObjectIsRun content id span cells → (dims : DimRows)
      (modes : List (List ℕ)) (rows : List LineOrder) → RepresentRows dims modes rows cells
      → RepresentRows dims modes rows (cells_of run.head.view cells.cells)
  in_view span cells is dims modes rows represent =
      subst (λ (v : View). RepresentRows dims modes rows (cells_of v cells.cells))
      (sym (ap (λ (head : RunHead). head.view) (first span cells is).0)) represent

  pub counts_run : (next : Progress) → GoesOn view at run.head next → (dims : DimRows) (modes : List (List ℕ))
      (old new : FoldState) → TakesRun dims modes (bytes_of now run.id) run old new
      → CountsRun content id view at dims modes old new next
  counts_run next goes dims modes old new takes = record {
    head = run.head;
    goes_on = goes;
    takes = λ span cells is. (
      (first span cells is).0,
      λ rows represent. takes cells.cells (all_left span cells is) rows
          (in_view span cells is dims modes rows represent),
    );
  }

  pub not_counted : (dims : DimRows) (modes : List (List ℕ)) (old : FoldState)
      → ((cells : List Cell) → AreLeft (bytes_of now run.id) run cells → (rows : List LineOrder)
      → RepresentRows dims modes rows (cells_of run.head.view cells) → CanTake dims old rows → ⊥)
      → (cells : PlainCells) (next : Progress) (rows : List LineOrder) → IsNextRun content id view at cells next
      → RepresentRows dims modes rows cells → CanTake dims old rows → ⊥
  not_counted dims modes old refuses cells next rows goes represent can =
      refuses cells.cells (all_left goes.span cells goes.there) rows
      (in_view goes.span cells goes.there dims modes rows represent) can
