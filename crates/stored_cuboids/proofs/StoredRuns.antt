-- The runs of the cuboids of a content that is laid out.
use Rattle.std.proofs.Common.{◌≡◌, ◌∙◌, suc, sym, ap, refl, subst, arith, ℕ, ◌-◌, ◌<◌, ◌≤◌, ◌==◌, if◌then◌else◌, true}
use Rattle.std.proofs.Common.{false, List, [], ◌∷◌, length, map, take, get_or, slice_get, Option, Some, None, All}
use Rattle.std.specs.Option.{IsSomeAnd, option_map}
use Rattle.std.proofs.lemmas.Bool.Decides.{nat_tests}
use Rattle.std.proofs.lemmas.List.{get_or-map, length-map, take_all}
use Rattle.std.proofs.lemmas.Option.{get_or_from_slice_get, slice_get_within}
use Rattle.object_store.specs.Content.{Content, bytes_of}
use Rattle.lattice.specs.declared.view.View.{View}
use Rattle.lattice.specs.Views.{index_of}
use Rattle.lattice.proofs.Places.{one_view}
use Rattle.cuboid_cells.specs.declared.span.Span.{Span}
use Rattle.cuboid_cells.specs.declared.cell.Cell.{Cell}
use Rattle.cuboid_cells.specs.Cells.{AreProperCells, PlainCells, cell_at}
use Rattle.cuboid_cells.specs.Merges.{IsMergeOf, merged_if_any}
use Rattle.cuboid_cells.specs.Spelled.{IsRun, IsSpan}
use Rattle.cuboid_cells.specs.Steps.{cells_of}
use Rattle.cuboid_cells.proofs.CallerLemmas.{IsRun-one}
use Rattle.warehouse_root.specs.Objects.{run_id}
use Rattle.warehouse_root.specs.Root.{IsProperCuboid}
use Rattle.cube_model.specs.Admission.{all_rows}
use Rattle.cuboid_upkeep.specs.Grouping.{RepresentRows}
use Rattle.cuboid_upkeep.specs.Lawful.{MergesRepresentBoth}
use Rattle.warehouse_objects.specs.Warehouse.{Cuboid, StoredRun, Warehouse, cell_count, cuboid_at, ship_modes_of}
use Rattle.warehouse_objects.specs.Represents.{Follow, HoldsGroupings, IsLaid, IsLaidOut, Represents, object_of}
use Rattle.warehouse_objects.specs.Represents.{run_bytes, said_of}
use Rattle.warehouse_objects.proofs.CallerLemmas.{object_run}
use Rattle.stored_cuboids.specs.declared.reading.Progress.{Progress}
use Rattle.stored_cuboids.specs.Merged.{AreMergedWith, HasMerge, IsSound}
use Rattle.stored_cuboids.specs.Steps.{RunsAreMerged, AreRead, GoesOn, ObjectIsRun, IsNextRun, MergesRun, run_head_of}
use Rattle.stored_cuboids.proofs.Represented.{merge_represents}
use Rattle.stored_cuboids.proofs.Merging.{cells_least, cells_more, follow_more, follow_next, follow_one, merged_more}
use Rattle.stored_cuboids.proofs.Merging.{merged_next, merged_view}

-- where the cuboid of a view is
pub record IsAt (cuboids : List Cuboid) (view : ℕ) (stored : Cuboid) : Type 0 where
  pub place : ℕ
  pub within : place < length cuboids
  pub is : get_or cuboids place stored ≡ stored
  pub number : index_of stored.view ≡ view

pub is_at : (cuboids : List Cuboid) (view : ℕ) (stored : Cuboid) → cuboid_at view cuboids ≡ Some stored
    → IsAt cuboids view stored
is_at [] view stored found = absurd cc
is_at (first ∷ cuboids) view stored found =
    (elim (index_of first.view == view) as (λ t. (index_of first.view == view) ≡ t
    → (if t then Some first else cuboid_at view cuboids) ≡ Some stored → IsAt (first ∷ cuboids) view stored) [
      | true ↦ λ e here.
          (let same : first ≡ stored = cc here in
          let number : index_of first.view ≡ view = grind (arith, nat_tests, e) in
          record {
            place = 0;
            within = omega arith;
            is = same;
            number = ap (λ (x : Cuboid). index_of x.view) (sym same)
                ∙ number;
          })
      | false ↦ λ e there.
          (let rest = is_at cuboids view stored there in
          record { place = suc rest.place; within = omega (arith, rest.within); is = rest.is; number = rest.number })
    ]) refl found

-- the cuboid of a view is sound, where all are
pub sound_at : (w : Warehouse) (view : ℕ) (stored : Cuboid) → cuboid_at view w.cuboids ≡ Some stored
    → All (IsSound w) w.cuboids → IsSound w stored
sound_at w view stored found all =
    let at = is_at w.cuboids view stored found in subst (IsSound w) at.is (all at.place stored at.within)

-- the merge of the runs of a cuboid is the grouping of its batches, where its runs are groupings
pub grouping_there : MergesRepresentBoth
    → (c : Content) (w : Warehouse) (view mark : ℕ) (stored : Cuboid) (cells : PlainCells) → Represents c w
    → cuboid_at view w.cuboids ≡ Some stored → stored.mark ≡ mark
    → HasMerge stored cells → RepresentRows w.rows (ship_modes_of w) (all_rows (take mark w.batches)) cells
grouping_there law c w view mark stored cells represents found ends merge =
    let at = is_at w.cuboids view stored found in
    let holds : HoldsGroupings w stored =
    subst (HoldsGroupings w) at.is (represents.cuboids at.place stored at.within) in
    subst (λ (n : ℕ). RepresentRows w.rows (ship_modes_of w) (all_rows (take n w.batches)) cells) ends
    (merge_represents law w stored cells holds merge)

-- what an object is said to be, by its bytes
run_by : (P : List ℕ → Type 0) (found : Option (List ℕ)) (bytes : List ℕ) → found ≡ Some bytes → P bytes
    → IsSomeAnd found P
run_by P found bytes is holds = subst (λ (o : Option (List ℕ)). IsSomeAnd o P) (sym is) holds

-- an object is one run
pub run_one : (found : Option (List ℕ)) (one other : Span) (cells others : PlainCells)
    → IsSomeAnd found (λ bytes. IsRun bytes one cells) → IsSomeAnd found (λ bytes. IsRun bytes other others)
    → (one ≡ other) × (cells ≡ others)
run_one None one other cells others is too = absurd is
run_one (Some bytes) one other cells others is too = IsRun-one bytes one other cells others is too

-- the run of an object, which another is said to be
pub next_one : (c : Content) (id : ℕ) (view : View) (so_far next : Progress) (span : Span) (cells others : PlainCells)
    → ObjectIsRun c id span cells → IsNextRun c id view so_far others next
    → GoesOn view so_far (run_head_of span cells) next × (others ≡ cells)
next_one c id view so_far next span cells others is goes =
    let one = run_one (bytes_of c id) goes.span span others cells goes.there is in (
      subst (λ (s : Span). GoesOn view so_far (run_head_of s cells) next) one.0
          (subst (λ (m : PlainCells). GoesOn view so_far (run_head_of goes.span m) next) one.1 goes.goes_on),
      one.1,
    )

-- and merged
pub taken : (c : Content) (id : ℕ) (old new : PlainCells) (so_far next after : Progress) (cells : PlainCells)
    → IsNextRun c id old.view so_far cells after → MergesRun c id old so_far new next
    → IsMergeOf old cells new × AreProperCells new
taken c id old new so_far next after cells is takes =
    let one = next_one c id old.view so_far next is.span cells takes.cells is.there takes.read in
    (subst (λ (m : PlainCells). IsMergeOf old m new) one.1 takes.merge, takes.proper)

module _ (c : Content) (w : Warehouse) (view : ℕ) (stored : Cuboid) (laid : IsLaidOut c w)
    (found : cuboid_at view w.cuboids ≡ Some stored) where
  abbrev at : IsAt w.cuboids view stored
  at = is_at w.cuboids view stored found

  pub is_laid : IsLaid w stored
  is_laid = subst (IsLaid w) at.is (laid.cuboids at.place stored at.within)

  pub is_proper : IsProperCuboid w.layout (length w.batches) (said_of stored)
  is_proper =
      let many = length-map w.cuboids said_of in
      let here = laid.root.proper.each at.place (said_of stored) (omega (arith, at.within, many)) in
      let same : get_or (map said_of w.cuboids) at.place (said_of stored) ≡ said_of stored =
      get_or-map said_of w.cuboids at.place stored (said_of stored) at.within ∙ ap said_of at.is in
      let batches : length (map length w.batches) ≡ length w.batches = length-map w.batches length in
      subst (λ (n : ℕ). IsProperCuboid w.layout n (said_of stored)) batches
      (subst (IsProperCuboid w.layout (length (map length w.batches))) same here)

  module _ (r : ℕ) (run : StoredRun) (here : slice_get stored.runs r ≡ Some run) where
    inside : r < length stored.runs
    inside = slice_get_within stored.runs r run here

    this : (d : StoredRun) → get_or stored.runs r d ≡ run
    this d = get_or_from_slice_get stored.runs r run d here

    is_run : IsRun (run_bytes stored run) run.span (cells_of stored.view run.cells)
    is_run = record {
      spelled = refl;
      span = subst (λ (x : StoredRun). IsSpan x.span) (this run) (is_laid.spans r run inside);
      proper = subst (λ (x : StoredRun). AreProperCells (cells_of stored.view x.cells)) (this run)
          (is_laid.proper r run inside);
    }

    run_object : bytes_of c (run_id view r) ≡ Some (run_bytes stored run)
    run_object =
        let few : r < 16 = omega (arith, inside, is_proper.most_runs) in
        let there = object_run w at.place r stored laid.root.proper.ascending at.within few in
        laid.objects (run_id view r)
        ∙ ap (λ (n : ℕ). object_of w (run_id n r)) (sym (ap (λ (x : Cuboid). index_of x.view) at.is ∙ at.number))
        ∙ there
        ∙ ap (λ (x : Cuboid). option_map (run_bytes x) (slice_get x.runs r)) at.is
        ∙ ap (option_map (run_bytes stored)) here

    -- the object is that run, and no other
    pub has_run : ObjectIsRun c (run_id view r) run.span (cells_of stored.view run.cells)
    has_run = run_by (λ bytes. IsRun bytes run.span (cells_of stored.view run.cells)) (bytes_of c (run_id view r))
        (run_bytes stored run) run_object is_run

    pub only_run : (span : Span) (cells : PlainCells) → ObjectIsRun c (run_id view r) span cells
        → (span ≡ run.span) × (cells ≡ cells_of stored.view run.cells)
    only_run span cells is = run_one (bytes_of c (run_id view r)) span run.span cells (cells_of stored.view run.cells)
        is has_run

    module _ (so_far : Progress) (are : AreRead stored r so_far) where
      pub begins : run.span.from ≡ so_far.end
      begins = follow_next 0 stored.runs r run so_far.end stored.mark here are.follow is_laid.follow

      -- the run was read
      module _ (own : View) (cells : PlainCells) (next : Progress)
          (goes : IsNextRun c (run_id view r) own so_far cells next) where
        only : (goes.span ≡ run.span) × (cells ≡ cells_of stored.view run.cells)
        only = only_run goes.span cells goes.there

        pub read_cells : cells ≡ cells_of stored.view run.cells
        read_cells = only.1

        pub read_to : next.end ≡ run.span.to
        read_to = goes.goes_on.to ∙ ap (λ (s : Span). s.to) only.0

        pub read_more : AreRead stored (suc r) next
        read_more =
            let list : cells.cells ≡ run.cells = ap (λ (m : PlainCells). m.cells) only.1 in record {
              follow = subst (λ (n : ℕ). Follow 0 (take (suc r) stored.runs) n) (sym read_to)
                  (follow_more 0 stored.runs r run so_far.end here are.follow begins);
              left = omega (arith, are.left, goes.goes_on.left, ap length list, cells_more stored.runs r run here);
            }

      -- it can be read
      pub can_read : (own : View) → own ≡ stored.view
          → IsNextRun c (run_id view r) own so_far (cells_of stored.view run.cells)
          (record { end = run.span.to; left = so_far.left - length run.cells })
      can_read own same =
          let most : length run.cells ≤ so_far.left =
          omega (arith, are.left, cells_more stored.runs r run here, cells_least stored.runs (suc r)) in record {
            span = run.span;
            there = has_run;
            goes_on = record { same = sym same; from = begins; to = refl; left = omega (arith, most) };
          }

    module _ (cells : PlainCells) (so_far : Progress) (are : RunsAreMerged stored r cells so_far) where
      same_view : cells.view ≡ stored.view
      same_view = merged_view (cells_of stored.view []) (take r stored.runs) cells are.merge

      -- the run was merged
      pub merged_with : (new : PlainCells) (next : Progress) → MergesRun c (run_id view r) cells so_far new next
          → RunsAreMerged stored (suc r) new next
      merged_with new next takes =
          let list : takes.cells.cells ≡ run.cells =
          ap (λ (m : PlainCells). m.cells) (read_cells so_far are.read cells.view takes.cells next takes.read) in
          let merge : IsMergeOf cells (cells_of cells.view run.cells) new = record {
            view = takes.merge.view;
            cells = record {
              ascending = takes.merge.cells.ascending;
              by_key = subst (λ (others : List Cell). (key : ℕ)
                  → cell_at key new.cells ≡ merged_if_any (cell_at key cells.cells) (cell_at key others)) list
                  takes.merge.cells.by_key;
            };
          } in record {
            read = read_more so_far are.read cells.view takes.cells next takes.read;
            merge = merged_more (cells_of stored.view []) stored.runs r run cells new here are.merge merge takes.proper;
          }

      -- the run can be merged, where all of them have a merge
      pub can_merge : (whole : PlainCells) → HasMerge stored whole → (new : PlainCells) × (next : Progress)
          × MergesRun c (run_id view r) cells so_far new next
      can_merge whole merge =
          let next = merged_next (cells_of stored.view []) stored.runs r run cells whole here are.merge merge in (
            next.0,
            record { end = run.span.to; left = so_far.left - length run.cells },
            record {
              cells = cells_of stored.view run.cells;
              read = can_read so_far are.read cells.view same_view;
              merge = record { view = next.1.view; cells = next.1.cells };
              proper = next.2;
            },
          )

  -- all runs were read
  module _ (so_far : Progress) (count : ℕ) (all : count ≡ length stored.runs) (are : AreRead stored count so_far) where
    whole : take count stored.runs ≡ stored.runs
    whole = take_all count stored.runs (omega (arith, all))

    pub at_mark : so_far.end ≡ stored.mark
    at_mark = follow_one 0 stored.runs so_far.end stored.mark
        (subst (λ (runs : List StoredRun). Follow 0 runs so_far.end) whole are.follow) is_laid.follow

    pub none_left : so_far.left ≡ 0
    none_left = omega (arith, are.left, ap cell_count whole)

  -- and merged
  pub has_merge : (cells : PlainCells) (so_far : Progress) (count : ℕ) → count ≡ length stored.runs
      → RunsAreMerged stored count cells so_far → HasMerge stored cells
  has_merge cells so_far count all are =
      subst (λ (runs : List StoredRun). AreMergedWith (cells_of stored.view []) runs cells)
      (whole so_far count all are.read) are.merge

-- before the first run
pub none_read : (stored : Cuboid) (so_far : Progress) → so_far ≡ record { end = 0; left = cell_count stored.runs }
    → AreRead stored 0 so_far
none_read stored so_far begins = record {
  follow = ap (λ (p : Progress). p.end) begins;
  left = omega (arith, ap (λ (p : Progress). p.left) begins);
}

pub none_merged : (stored : Cuboid) (view : View) (cells : PlainCells) (so_far : Progress)
    → index_of view ≡ index_of stored.view → cells ≡ cells_of view []
    → so_far ≡ record { end = 0; left = cell_count stored.runs } → RunsAreMerged stored 0 cells so_far
none_merged stored view cells so_far same is begins = record {
  read = none_read stored so_far begins;
  merge = is ∙ ap (λ (v : View). cells_of v []) (one_view view stored.view same);
}
