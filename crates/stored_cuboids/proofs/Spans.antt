-- The rows of the batches of spans that follow each other.
use Rattle.std.proofs.Common.{◌≡◌, ◌≤◌, ◌+◌, ◌-◌, ℕ, List, [], ◌∷◌, ◌++◌, take, drop, All, refl, sym, ◌∙◌, ap, subst}
use Rattle.std.proofs.Common.{arith}
use Rattle.std.proofs.Math.Seq.{take-add}
use Rattle.std.proofs.lemmas.Grind.{flat_map-append}
use Rattle.std.proofs.lemmas.List.{drop-take}
use Rattle.std.proofs.lemmas.List.Elements.{All-append, All-head, All-nil, All-tail}
use Rattle.cube_model.specs.Admission.{all_rows}
use Rattle.cube_model.specs.declared.rows.LineOrder.{LineOrder}
use Rattle.lattice.specs.declared.view.View.{View}
use Rattle.cuboid_cells.specs.declared.span.Span.{Span}
use Rattle.cuboid_cells.specs.Spelled.{IsSpan}
use Rattle.cuboid_cells.specs.Steps.{cells_of}
use Rattle.cuboid_upkeep.specs.Grouping.{HasMembers, RepresentRows}
use Rattle.warehouse_objects.specs.Warehouse.{Cuboid, StoredRun, Warehouse, ship_modes_of}
use Rattle.warehouse_objects.specs.Represents.{Follow, HoldsGroupings, rows_in}

take_split : {A : Type 0} (xs : List A) (from to : ℕ) → from ≤ to → take to xs ≡ take from xs ++ drop from (take to xs)
take_split xs from to order =
    let to_is : from + (to - from) ≡ to = omega (arith, order) in
    ap (λ (n : ℕ). take n xs) (sym to_is) ∙ take-add from (to - from) xs
    ∙ ap (λ (l : List _). take from xs ++ l)
    (sym (drop-take from (to - from) xs) ∙ ap (λ (n : ℕ). drop from (take n xs)) to_is)

-- the first batches, and those of a span after them
pub rows_split : (batches : List (List LineOrder)) (span : Span) → span.from ≤ span.to
    → all_rows (take span.to batches) ≡ all_rows (take span.from batches) ++ rows_in batches span
rows_split batches span order =
    ap all_rows (take_split batches span.from span.to order)
    ∙ flat_map-append (λ (batch : List LineOrder). batch) (take span.from batches)
    (drop span.from (take span.to batches))

-- the rows of a cuboid's batches have their members
module _ (w : Warehouse) (view : View) where
  abbrev Known : List LineOrder → Type 0
  Known rows = All (HasMembers w.rows (ship_modes_of w) view) rows

  runs_known : (from : ℕ) (runs : List StoredRun) (mark : ℕ) → Follow from runs mark → All (λ run. IsSpan run.span) runs
      → All (λ run. RepresentRows w.rows (ship_modes_of w) (rows_in w.batches run.span) (cells_of view run.cells)) runs
      → Known (all_rows (take from w.batches)) → Known (all_rows (take mark w.batches))
  runs_known from [] mark follow spans groupings so_far =
      subst (λ (n : ℕ). Known (all_rows (take n w.batches))) (sym follow) so_far
  runs_known from (run ∷ runs) mark follow spans groupings so_far =
      let span = All-head (λ r. IsSpan r.span) run runs spans in
      let own = All-head
      (λ r. RepresentRows w.rows (ship_modes_of w) (rows_in w.batches r.span) (cells_of view r.cells)) run
      runs groupings in
      let before : Known (all_rows (take run.span.from w.batches)) =
      subst (λ (n : ℕ). Known (all_rows (take n w.batches))) (sym follow.0) so_far in
      runs_known run.span.to runs mark follow.1 (All-tail (λ r. IsSpan r.span) run runs spans)
      (All-tail (λ r. RepresentRows w.rows (ship_modes_of w) (rows_in w.batches r.span) (cells_of view r.cells)) run
      runs
      groupings)
      (subst Known (sym (rows_split w.batches run.span (omega (arith, span.some))))
      (All-append (HasMembers w.rows (ship_modes_of w) view) (all_rows (take run.span.from w.batches))
      (rows_in w.batches run.span) before own.known))

pub cuboid_known : (w : Warehouse) (cuboid : Cuboid) → HoldsGroupings w cuboid
    → All (HasMembers w.rows (ship_modes_of w) cuboid.view) (all_rows (take cuboid.mark w.batches))
cuboid_known w cuboid holds =
    runs_known w cuboid.view 0 cuboid.runs cuboid.mark holds.laid.follow holds.laid.spans holds.groupings
    (All-nil (HasMembers w.rows (ship_modes_of w) cuboid.view))

-- a run after others goes on where they end
pub follow_more : (from : ℕ) (runs : List StoredRun) (mark : ℕ) (run : StoredRun) → Follow from runs mark
    → run.span.from ≡ mark → Follow from (runs ++ run ∷ []) run.span.to
follow_more from [] mark run follow goes_on = (goes_on ∙ follow, refl)
follow_more from (first ∷ runs) mark run follow goes_on =
    (follow.0, follow_more first.span.to runs mark run follow.1 goes_on)
