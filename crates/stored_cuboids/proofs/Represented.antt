-- Runs that are groupings, merged one after another.
use Rattle.std.proofs.Common.{◌≡◌, ◌∙◌, zero, suc, sym, ap, refl, subst, arith, ℕ, ◌+◌, ◌<◌, ◌≤◌, ◌^◌, ◌==◌, true}
use Rattle.std.proofs.Common.{false, cond, List, [], ◌∷◌, ◌++◌, length, map, drop, take, get_or, Option, Some, None}
use Rattle.std.proofs.Common.{All}
use Rattle.std.proofs.lemmas.Grind.{flat_map-append}
use Rattle.std.proofs.lemmas.Bool.Decides.{nat_tests}
use Rattle.std.proofs.lemmas.List.{get_or-map, length-map, take-append-drop}
use Rattle.std.proofs.lemmas.List.Elements.{All-cons, All-head, All-nil, All-tail}
use Rattle.std.proofs.lemmas.List.Sums.{count_by-le-length, length-filter, sum_by-cons}
use Rattle.cube_model.specs.Admission.{AreInRange, all_rows}
use Rattle.cube_model.specs.Measures.{measure_of}
use Rattle.cube_model.specs.declared.rows.DimRows.{DimRows}
use Rattle.cube_model.specs.declared.rows.LineOrder.{LineOrder}
use Rattle.object_store.specs.Content.{Content}
use Rattle.lattice.specs.declared.view.View.{View}
use Rattle.cuboid_cells.specs.declared.cell.Cell.{Cell}
use Rattle.cuboid_cells.specs.Cells.{AreAscending, AreProperCells, CellFits, IsCellOf, KeyFits, PlainCells, cell_at}
use Rattle.cuboid_cells.specs.Cells.{key_as_number}
use Rattle.cuboid_cells.specs.Limits.{most_cells}
use Rattle.cuboid_cells.specs.Merges.{IsMergeOf, merged, merged_if_any}
use Rattle.cuboid_cells.specs.Spelled.{IsSpan}
use Rattle.cuboid_cells.specs.Steps.{cells_of}
use Rattle.cuboid_upkeep.specs.Grouping.{NumbersFit, RepresentRows, key_of, rows_of_number}
use Rattle.cuboid_upkeep.specs.Lawful.{MergesRepresentBoth}
use Rattle.cuboid_upkeep.proofs.LawsLemmas.{merges_represent_both}
use Rattle.cuboid_upkeep.proofs.CallerLemmas.{Climbs, ascending_apart, ascends, at_insert, cell_fits, climbs_insert}
use Rattle.cuboid_upkeep.proofs.CallerLemmas.{insert, inserted, none_after, only_one, part_small, tail_ascends}
use Rattle.warehouse_root.specs.declared.cuboid.StoredCuboid.{StoredCuboid}
use Rattle.warehouse_objects.specs.Represents.{Follow, HoldsGroupings, Represents, rows_in, said_of}
use Rattle.warehouse_objects.specs.Warehouse.{Cuboid, StoredRun, Warehouse, cell_count, ship_modes_of}
use Rattle.warehouse_objects.proofs.CallerLemmas.{foldable}
use Rattle.stored_cuboids.specs.Lawful.{KeptCuboidsAreSound}
use Rattle.stored_cuboids.specs.Merged.{AreMergedWith, HasMerge, IsSound}

-- ---- the rows of batches, one after another

take_less : {A : Type 0} (from to : ℕ) (xs : List A) → from ≤ to → take from (take to xs) ≡ take from xs
take_less zero to xs le = refl
take_less (suc from) zero xs le = absurd (omega (arith, le))
take_less (suc from) (suc to) [] le = refl
take_less {A = A} (suc from) (suc to) (x ∷ xs) le =
    ap (λ (l : List A). x ∷ l) (take_less from to xs (omega (arith, le)))

pub rows_after : (batches : List (List LineOrder)) (from to : ℕ) → from ≤ to
    → all_rows (take from batches) ++ all_rows (drop from (take to batches)) ≡ all_rows (take to batches)
rows_after batches from to le =
    ap (λ (bs : List (List LineOrder)). all_rows bs ++ all_rows (drop from (take to batches)))
    (sym (take_less from to batches le))
    ∙ sym (flat_map-append (λ (batch : List LineOrder). batch) (take from (take to batches))
    (drop from (take to batches)))
    ∙ ap all_rows (take-append-drop from (take to batches))

-- ---- the merge of groupings

module _ (law : MergesRepresentBoth) (w : Warehouse) (view : View) where
  abbrev AreGroupings : List StoredRun → Type 0
  AreGroupings runs =
      All (λ run. RepresentRows w.rows (ship_modes_of w) (rows_in w.batches run.span) (cells_of view run.cells)) runs

  abbrev Group : ℕ → PlainCells → Type 0
  Group to cells = RepresentRows w.rows (ship_modes_of w) (all_rows (take to w.batches)) cells

  -- one run more
  next_represents : (cells next : PlainCells) (run : StoredRun) (from : ℕ) → cells.view ≡ view → Group from cells
      → run.span.from ≡ from → IsSpan run.span
      → RepresentRows w.rows (ship_modes_of w) (rows_in w.batches run.span) (cells_of view run.cells)
      → IsMergeOf cells (cells_of cells.view run.cells) next → Group run.span.to next
  next_represents cells next run from same so_far begins span grouping merge =
      let both = law w.rows (ship_modes_of w) (all_rows (take from w.batches)) (rows_in w.batches run.span) cells
      (cells_of cells.view run.cells) next refl so_far
      (subst (λ (v : View). RepresentRows w.rows (ship_modes_of w) (rows_in w.batches run.span) (cells_of v run.cells))
      (sym same) grouping) merge in
      let rows : all_rows (take from w.batches) ++ rows_in w.batches run.span ≡ all_rows (take run.span.to w.batches) =
      ap (λ (n : ℕ). all_rows (take n w.batches) ++ rows_in w.batches run.span) (sym begins)
      ∙ rows_after w.batches run.span.from run.span.to (omega (arith, span.some)) in
      subst (λ (rows : List LineOrder). RepresentRows w.rows (ship_modes_of w) rows next) rows both

  pub merged_represent : (runs : List StoredRun) (cells new : PlainCells) (from mark : ℕ) → cells.view ≡ view
      → Group from cells → AreMergedWith cells runs new → Follow from runs mark
      → All (λ run. IsSpan run.span) runs → AreGroupings runs → Group mark new
  merged_represent [] cells new from mark same so_far are follow spans groupings =
      subst (λ (n : ℕ). Group n new) (sym follow) (subst (Group from) (sym are) so_far)
  merged_represent (run ∷ runs) cells new from mark same so_far are follow spans groupings =
      merged_represent runs are.0 new run.span.to mark (are.1.view ∙ same)
      (next_represents cells are.0 run from same so_far follow.0 (All-head (λ x. IsSpan x.span) run runs spans)
      (All-head (λ x. RepresentRows w.rows (ship_modes_of w) (rows_in w.batches x.span) (cells_of view x.cells)) run
      runs groupings) are.1)
      are.3 follow.1 (All-tail (λ x. IsSpan x.span) run runs spans)
      (All-tail (λ x. RepresentRows w.rows (ship_modes_of w) (rows_in w.batches x.span) (cells_of view x.cells)) run
      runs groupings)

  -- no cell groups no row
  pub none_represent : Group 0 (cells_of view [])
  none_represent = record {
    known = λ k d within. absurd (omega (arith, within));
    ascending = λ i j d before within. absurd (omega (arith, within));
    group = λ number. refl;
  }

-- the merge of a cuboid's runs is the grouping of its batches
pub merge_represents : MergesRepresentBoth → (w : Warehouse) (stored : Cuboid) (cells : PlainCells)
    → HoldsGroupings w stored → HasMerge stored cells
    → RepresentRows w.rows (ship_modes_of w) (all_rows (take stored.mark w.batches)) cells
merge_represents law w stored cells holds merge =
    merged_represent law w stored.view stored.runs (cells_of stored.view []) cells 0 stored.mark refl
    (none_represent law w stored.view) merge holds.laid.follow holds.laid.spans holds.groupings

-- ---- there is a merge

abbrev key_number : Cell → ℕ
key_number cell = key_as_number cell.key

abbrev merge_lists : List Cell → List Cell → List Cell
merge_lists [] other = other
merge_lists (cell ∷ one) other = insert cell (merge_lists one other)

climbs_of : (low : ℕ) (cells : List Cell) → AreAscending cells → All (λ cell. low ≤ key_number cell) cells
    → Climbs low cells
climbs_of low [] up above = tt
climbs_of low (cell ∷ cells) up above = (
  All-head (λ one. low ≤ key_number one) cell cells above,
  climbs_of (key_number cell + 1) cells (tail_ascends cell cells up)
      (λ k d within. let over = up 0 (suc k) d (omega arith) (omega (arith, within)) in omega (arith, over)),
)

merge_climbs : (one other : List Cell) → Climbs 0 other → Climbs 0 (merge_lists one other)
merge_climbs [] other climbs = climbs
merge_climbs (cell ∷ one) other climbs =
    climbs_insert 0 cell (merge_lists one other) (omega arith) (merge_climbs one other climbs)

by_key : (one other : List Cell) → AreAscending one → Climbs 0 other → (key : ℕ)
    → cell_at key (merge_lists one other) ≡ merged_if_any (cell_at key one) (cell_at key other)
by_key [] other up climbs key = refl
by_key (cell ∷ one) other up climbs key =
    at_insert 0 key cell (merge_lists one other) (merge_climbs one other climbs)
    ∙ ap (merged_if_any (cell_at key (cell ∷ []))) (by_key one other (tail_ascends cell one up) climbs key)
    ∙ (elim (key_number cell == key) as (λ t. (key_number cell == key) ≡ t
    → merged_if_any (cond t (Some cell) None) (merged_if_any (cell_at key one) (cell_at key other))
    ≡ merged_if_any (cond t (Some cell) (cell_at key one)) (cell_at key other)) [
      | true ↦ λ e.
          (let own : key_number cell ≡ key = grind (arith, nat_tests, e) in
          let none : cell_at key one ≡ None = ap (λ (n : ℕ). cell_at n one) (sym own) ∙ none_after cell one up in
          ap (λ (o : Option Cell). merged_if_any (Some cell) (merged_if_any o (cell_at key other))) none)
      | false ↦ λ e. refl
    ]) refl

insert_length : (cell : Cell) (cells : List Cell) → length (insert cell cells) ≤ length cells + 1
insert_length cell [] = omega arith
insert_length cell (first ∷ cells) =
    let rest = insert_length cell cells in
    inserted (λ (l : List Cell). length l ≤ length (first ∷ cells) + 1) cell first cells (λ lt. omega arith)
    (λ e. omega arith) (λ gt. omega (arith, rest))

merge_length : (one other : List Cell) → length (merge_lists one other) ≤ length one + length other
merge_length [] other = omega arith
merge_length (cell ∷ one) other = omega (arith, insert_length cell (merge_lists one other), merge_length one other)

-- what the first of two cells of one key has, their merge has
module _ (P : Cell → Type 0) (of_merge : (one other : Cell) → P one → P (merged one other)) where
  insert_all : (cell : Cell) (cells : List Cell) → P cell → All P cells → All P (insert cell cells)
  insert_all cell [] here all = All-cons P cell [] here (All-nil P)
  insert_all cell (first ∷ cells) here all =
      inserted (All P) cell first cells (λ lt. All-cons P cell (first ∷ cells) here all)
      (λ e. All-cons P (merged cell first) cells (of_merge cell first here) (All-tail P first cells all))
      (λ gt. All-cons P first (insert cell cells) (All-head P first cells all)
      (insert_all cell cells here (All-tail P first cells all)))

  merge_all : (one other : List Cell) → All P one → All P other → All P (merge_lists one other)
  merge_all [] other all also = also
  merge_all (cell ∷ one) other all also =
      insert_all cell (merge_lists one other) (All-head P cell one all)
      (merge_all one other (All-tail P cell one all) also)

-- cells that group rows in range fit
module _ (rows : DimRows) (modes : List (List ℕ)) (facts : List LineOrder) (plain : PlainCells)
    (represent : RepresentRows rows modes facts plain) (in_range : AreInRange facts) (few : length facts < 2 ^ 63) where
  numbers_fit : All NumbersFit plain.cells
  numbers_fit k d within =
      let cell : Cell = get_or plain.cells k d in
      let number : ℕ = key_number cell in
      let test = λ (row : LineOrder). key_as_number (key_of rows modes plain.view row) == number in
      let found : cell_at number plain.cells ≡ Some cell =
      only_one plain.cells cell (ascending_apart plain.cells represent.ascending)
      (k, within, same_there plain.cells k d cell within refl) in
      cell_fits rows modes plain.view (rows_of_number rows modes plain.view number facts) cell
      (sym (represent.group number) ∙ found)
      (λ measure. omega (arith, in_range measure, part_small (measure_of measure) test facts))
      (omega (arith, few, length-filter test facts, count_by-le-length test facts))
    where
      same_there : (cells : List Cell) (k : ℕ) (d e : Cell) → k < length cells → get_or cells k d ≡ e
          → get_or cells k e ≡ e
      same_there [] k d e within is = absurd (omega (arith, within))
      same_there (cell ∷ cells) zero d e within is = is
      same_there (cell ∷ cells) (suc k) d e within is = same_there cells k d e (omega (arith, within)) is

-- what a merge is like, but for the sizes of its numbers
record IsLikeMerge (one : PlainCells) (others : List Cell) (next : PlainCells) : Type 0 where
  pub is : IsMergeOf one (cells_of one.view others) next
  pub most : length next.cells ≤ length one.cells + length others
  pub each : All (IsCellOf next.view) next.cells
  pub keys : All (λ cell. KeyFits cell.key) next.cells

merge_there : (one : PlainCells) (others : List Cell) → AreProperCells one → AreProperCells (cells_of one.view others)
    → IsLikeMerge one others (cells_of one.view (merge_lists one.cells others))
merge_there one others proper also =
    let climbs = climbs_of 0 others also.rules.ascending (λ k d within. omega arith) in record {
      is = record {
        view = refl;
        cells = record {
          ascending = ascends 0 (merge_lists one.cells others) (merge_climbs one.cells others climbs);
          by_key = by_key one.cells others proper.rules.ascending climbs;
        };
      };
      most = merge_length one.cells others;
      each = merge_all (IsCellOf one.view) (λ a b is. record { key = is.key; count = omega (arith, is.count) })
          one.cells others proper.rules.each also.rules.each;
      keys = merge_all (λ cell. KeyFits cell.key) (λ a b is. is) one.cells others
          (λ k d within. (proper.fit k d within).key) (λ k d within. (also.fit k d within).key);
    }

-- ---- the cuboids of the warehouse of a content

pub follow_up : (from : ℕ) (runs : List StoredRun) (mark : ℕ) → Follow from runs mark
    → All (λ run. IsSpan run.span) runs → from ≤ mark
follow_up from [] mark follow spans = omega (arith, follow)
follow_up from (run ∷ runs) mark follow spans =
    let span = All-head (λ (x : StoredRun). IsSpan x.span) run runs spans in
    let rest = follow_up run.span.to runs mark follow.1 (All-tail (λ (x : StoredRun). IsSpan x.span) run runs spans) in
    omega (arith, follow.0, span.some, rest)

module _ (law : MergesRepresentBoth) (c : Content) (w : Warehouse) (represents : Represents c w) (view : View) where
  abbrev Proper : List StoredRun → Type 0
  Proper runs = All (λ run. AreProperCells (cells_of view run.cells)) runs

  -- each run can be merged into those before it
  chain : (runs : List StoredRun) (cells : PlainCells) (from mark : ℕ) → cells.view ≡ view → AreProperCells cells
      → Group law w view from cells → Follow from runs mark → mark ≤ length w.batches
      → All (λ run. IsSpan run.span) runs → Proper runs → AreGroupings law w view runs
      → length cells.cells + cell_count runs ≤ most_cells
      → (new : PlainCells) × AreMergedWith cells runs new
  chain [] cells from mark same proper so_far follow within spans propers groupings few = (cells, refl)
  chain (run ∷ runs) cells from mark same proper so_far follow within spans propers groupings few =
      let span = All-head (λ (x : StoredRun). IsSpan x.span) run runs spans in
      let rest_spans = All-tail (λ (x : StoredRun). IsSpan x.span) run runs spans in
      let own = All-head (λ (x : StoredRun). AreProperCells (cells_of view x.cells)) run runs propers in
      let like = merge_there cells run.cells proper
      (subst (λ (v : View). AreProperCells (cells_of v run.cells)) (sym same) own) in
      let next : PlainCells = cells_of cells.view (merge_lists cells.cells run.cells) in
      let grouping =
      All-head (λ (x : StoredRun). RepresentRows w.rows (ship_modes_of w) (rows_in w.batches x.span)
      (cells_of view x.cells)) run runs groupings in
      let represent = next_represents law w view cells next run from same so_far follow.0 span grouping like.is in
      let ends = follow_up run.span.to runs mark follow.1 rest_spans in
      let folds = foldable w.rows w.batches represents.batches run.span.to (omega (arith, ends, within)) in
      let fit = numbers_fit w.rows (ship_modes_of w) (all_rows (take run.span.to w.batches)) next represent
      folds.in_range folds.few in
      let many = sum_by-cons (λ (x : StoredRun). length x.cells) run runs in
      let next_proper : AreProperCells next = record {
        rules = record {
          few = omega (arith, like.most, few, many);
          each = like.each;
          ascending = like.is.cells.ascending;
        };
        fit = λ k d at. record { key = like.keys k d at; count = (fit k d at).count; measures = (fit k d at).measures };
      } in
      let rest = chain runs next run.span.to mark same next_proper represent follow.1 within rest_spans
      (All-tail (λ (x : StoredRun). AreProperCells (cells_of view x.cells)) run runs propers)
      (All-tail (λ (x : StoredRun). RepresentRows w.rows (ship_modes_of w) (rows_in w.batches x.span)
      (cells_of view x.cells)) run runs groupings)
      (omega (arith, like.most, few, many)) in
      (rest.0, (next, like.is, next_proper, rest.1))

  sound_there : (stored : Cuboid) → stored.view ≡ view → HoldsGroupings w stored → stored.mark ≤ length w.batches
      → cell_count stored.runs ≤ most_cells → (cells : PlainCells) × HasMerge stored cells
  sound_there stored same holds within few =
      let none : AreProperCells (cells_of view []) = record {
        rules = record {
          few = omega arith;
          each = All-nil (IsCellOf view);
          ascending = λ i j d before at. absurd (omega (arith, at));
        };
        fit = All-nil CellFits;
      } in
      let there = chain stored.runs (cells_of view []) 0 stored.mark refl none (none_represent law w view)
      holds.laid.follow within holds.laid.spans
      (subst (λ (v : View). All (λ run. AreProperCells (cells_of v run.cells)) stored.runs) same holds.laid.proper)
      (subst (λ (v : View). All
      (λ run. RepresentRows w.rows (ship_modes_of w) (rows_in w.batches run.span) (cells_of v run.cells)) stored.runs)
      same holds.groupings)
      (omega (arith, few)) in
      (there.0, subst (λ (v : View). AreMergedWith (cells_of v []) stored.runs there.0) (sym same) there.1)

-- a cuboid of such a warehouse is sound
pub kept_sound : MergesRepresentBoth → (c : Content) (w : Warehouse) → Represents c w → All (IsSound w) w.cuboids
kept_sound law c w represents = λ k d lt.
    let stored : Cuboid = get_or w.cuboids k d in
    let holds = represents.cuboids k d lt in
    let many = length-map w.cuboids said_of in
    let batches : length (map length w.batches) ≡ length w.batches = length-map w.batches length in
    let said : get_or (map said_of w.cuboids) k (said_of d) ≡ said_of stored =
    get_or-map said_of w.cuboids k d (said_of d) lt in
    let proper = represents.root.proper.each k (said_of d) (omega (arith, lt, many)) in
    let mark : stored.mark ≤ length w.batches =
    omega (arith, proper.mark, batches, ap (λ (s : StoredCuboid). s.mark) said) in
    let few : cell_count stored.runs ≤ most_cells =
    omega (arith, proper.most_cells, ap (λ (s : StoredCuboid). s.cells) said) in
    let there = sound_there law c w represents stored.view stored refl holds mark few in
    record { cells = there.0; merge = there.1; grouping = merge_represents law w stored there.0 holds there.1 }

-- the law of stored cuboids, as callers cite it
pub kept_cuboids_are_sound : KeptCuboidsAreSound
kept_cuboids_are_sound = kept_sound merges_represent_both
