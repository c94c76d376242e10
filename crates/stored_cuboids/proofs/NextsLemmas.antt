-- The cells of the batches after a cuboid's mark, and its own.
use Rattle.std.proofs.Common.{◌≡◌, ◌⊎◌, ⊎_elim, inl, inr, ◌≤◌, ◌<◌, ◌^◌, ℕ, Err, IsErrOf, List, []}
use Rattle.std.proofs.Common.{◌++◌, length, take, All, sym, ◌∙◌, ap, subst, arith, append-nil}
use Rattle.std.proofs.lemmas.List.{length-map}
use Rattle.std.proofs.lemmas.List.Elements.{All-append}
use Rattle.cube_model.specs.Admission.{AreInRange, all_rows}
use Rattle.cube_model.specs.declared.fault.Fault.{Fault}
use Rattle.cube_model.specs.declared.fault.Fault.TheVariants.{BadLayout, Memory, TooManyCells}
use Rattle.cube_model.specs.declared.rows.DimRows.{DimRows}
use Rattle.cube_model.specs.declared.rows.LineOrder.{LineOrder}
use Rattle.lattice.specs.declared.view.View.{View}
use Rattle.lattice.specs.Views.{index_of}
use Rattle.cuboid_cells.specs.declared.span.Span.{Span}
use Rattle.cuboid_cells.specs.Cells.{AreProperCells, PlainCells}
use Rattle.cuboid_cells.specs.Merges.{IsMergeFault}
use Rattle.cuboid_upkeep.specs.Grouping.{HasMembers, PassType, RepresentRows}
use Rattle.cuboid_upkeep.specs.Lawful.{MoreRowsHaveNoFewerCells, RowsHaveCells, RowsInRangeFit}
use Rattle.cuboid_upkeep.specs.Steps.{AreUnfit, HaveTooMany}
use Rattle.cuboid_upkeep.proofs.CallerLemmas.{merge_refused}
use Rattle.object_store.specs.Content.{Content}
use Rattle.warehouse_root.specs.declared.cuboid.StoredCuboid.{StoredCuboid}
use Rattle.warehouse_root.specs.Layouts.{view_count}
use Rattle.warehouse_root.specs.Root.{PlainRoot}
use Rattle.warehouse_objects.specs.Warehouse.{AreInOrder, Cuboid, Warehouse, ship_modes_of}
use Rattle.warehouse_objects.specs.Represents.{HoldsGroupings, Represents, rows_in}
use Rattle.warehouse_objects.proofs.Batches.{foldable}
use Rattle.warehouse_objects.proofs.CallerLemmas.{view_within}
use Rattle.stored_cuboids.specs.Nexts.{HasStored}
use Rattle.stored_cuboids.proofs.Spans.{cuboid_known, rows_split}

-- the rows up to the end of a span are in range
module _ (w : Warehouse) (order : AreInOrder w.rows w.batches) (span : Span) (some : span.from ≤ span.to)
    (within : span.to ≤ length w.batches) where
  pub whole_in_range : AreInRange (all_rows (take span.from w.batches) ++ rows_in w.batches span)
  whole_in_range =
      subst (λ (l : List LineOrder). AreInRange l) (rows_split w.batches span some)
      (foldable w.rows w.batches order span.to within).in_range

  pub whole_few : length (all_rows (take span.from w.batches) ++ rows_in w.batches span) < 2 ^ 63
  whole_few = subst (λ (l : List LineOrder). length l < 2 ^ 63) (rows_split w.batches span some)
      (foldable w.rows w.batches order span.to within).few

-- what is too large for the rows of a span is so for these with the rows before them
pub whole_too_large : RowsHaveCells → MoreRowsHaveNoFewerCells → (w : Warehouse) (old : Cuboid) → HoldsGroupings w old
    → (span : Span) → span.from ≡ old.mark → span.from ≤ span.to
    → HaveTooMany w.rows (ship_modes_of w) old.view (rows_in w.batches span)
    → HaveTooMany w.rows (ship_modes_of w) old.view (all_rows (take span.to w.batches))
whole_too_large have more w old holds span from some large =
    let before : All (HasMembers w.rows (ship_modes_of w) old.view) (all_rows (take span.from w.batches)) =
    subst (λ (n : ℕ). All (HasMembers w.rows (ship_modes_of w) old.view) (all_rows (take n w.batches))) (sym from)
    (cuboid_known w old holds) in
    let known = All-append (HasMembers w.rows (ship_modes_of w) old.view) (all_rows (take span.from w.batches))
    (rows_in w.batches span) before large.represent.known in
    let all = have w.rows (ship_modes_of w) old.view (all_rows (take span.from w.batches) ++ rows_in w.batches span)
    known in
    let no_fewer = more w.rows (ship_modes_of w) old.view (all_rows (take span.from w.batches)) (rows_in w.batches span)
    []
    large.cells all.0 large.represent
    (subst (λ (l : List LineOrder). RepresentRows w.rows (ship_modes_of w) (all_rows (take span.from w.batches) ++ l)
    (record { view = old.view; cells = all.0 })) (sym (append-nil (rows_in w.batches span))) all.1) in
    subst (λ (l : List LineOrder). HaveTooMany w.rows (ship_modes_of w) old.view l)
    (sym (rows_split w.batches span some))
    (record { cells = all.0; represent = all.1; many = omega (arith, large.many, no_fewer) })

-- why cells that represent rows are not merged
abbrev pub IsNotMerged : DimRows → List (List ℕ) → View → List LineOrder → Fault → Type 0
IsNotMerged dimensions modes view rows fault =
    (fault ≡ Memory)
    ⊎ (((fault ≡ BadLayout) × (AreInRange rows → length rows < 2 ^ 63 → ⊥))
    ⊎ ((fault ≡ TooManyCells (index_of view)) × HaveTooMany dimensions modes view rows))

pub not_merged : RowsInRangeFit
    → (dimensions : DimRows) (modes : List (List ℕ)) (one other : PlainCells) (so_far rows : List LineOrder)
    (fault : Fault) → other.view ≡ one.view → AreProperCells one
    → RepresentRows dimensions modes so_far one → RepresentRows dimensions modes rows other
    → IsMergeFault one other fault → IsNotMerged dimensions modes one.view (so_far ++ rows) fault
not_merged fit dimensions modes one other so_far rows fault same proper first second why =
    let here : RepresentRows dimensions modes rows (record { view = one.view; cells = other.cells }) =
    subst (λ (v : View). RepresentRows dimensions modes rows (record { view = v; cells = other.cells })) same second in
    ⊎_elim {C = IsNotMerged dimensions modes one.view (so_far ++ rows) fault}
    (λ memory. inl memory)
    (⊎_elim {C = IsNotMerged dimensions modes one.view (so_far ++ rows) fault}
    (λ (bad : (fault ≡ BadLayout) × AreUnfit dimensions modes one.view (so_far ++ rows)). inr (inl (
      bad.0,
      λ in_range few. ⊎_elim {C = ⊥}
          (λ (none : All (HasMembers dimensions modes one.view) (so_far ++ rows) → ⊥). none
          (All-append (HasMembers dimensions modes one.view) so_far rows first.known here.known))
          (λ (past : PassType dimensions modes one.view (so_far ++ rows)). fit dimensions modes one.view
          (so_far ++ rows) in_range few past) bad.1,
    )))
    (λ many. inr (inr many)))
    (merge_refused dimensions modes one.view so_far rows one.cells other.cells proper.fit first here fault why)

pub large_of : {X : Type 0} (dimensions : DimRows) (modes : List (List ℕ)) (view : View) (rows : List LineOrder)
    (fault : Fault) (number : ℕ) → IsErrOf {T = X} (Err fault) (TooManyCells number)
    → IsNotMerged dimensions modes view rows fault → HaveTooMany dimensions modes view rows
large_of dimensions modes view rows fault number is why =
    let same : fault ≡ TooManyCells number = cc is in
    ⊎_elim {C = HaveTooMany dimensions modes view rows}
    (λ (memory : fault ≡ Memory). let none : TooManyCells number ≡ Memory = sym same ∙ memory in absurd cc)
    (⊎_elim {C = HaveTooMany dimensions modes view rows}
    (λ (bad : (fault ≡ BadLayout) × (AreInRange rows → length rows < 2 ^ 63 → ⊥)). let none : TooManyCells number
    ≡ BadLayout = sym same ∙ bad.0 in absurd cc)
    (λ large. large.1)) why

pub unfit_of : {X : Type 0} (dimensions : DimRows) (modes : List (List ℕ)) (view : View) (rows : List LineOrder)
    (fault : Fault) → IsErrOf {T = X} (Err fault) BadLayout → IsNotMerged dimensions modes view rows fault
    → AreInRange rows → length rows < 2 ^ 63 → ⊥
unfit_of dimensions modes view rows fault is why in_range few =
    let same : fault ≡ BadLayout = cc is in
    ⊎_elim {C = ⊥}
    (λ (memory : fault ≡ Memory). let none : BadLayout ≡ Memory = sym same ∙ memory in absurd cc)
    (⊎_elim {C = ⊥}
    (λ bad. bad.1 in_range few)
    (λ (large : (fault ≡ TooManyCells (index_of view)) × HaveTooMany dimensions modes view rows). let none : BadLayout
    ≡ TooManyCells (index_of view) = sym same ∙ large.0 in absurd cc)) why

-- what holds of the rows up to a mark and of those of a span from there
pub whole_rows : (P : List LineOrder → Type 0) (batches : List (List LineOrder)) (span : Span) (mark : ℕ)
    → span.from ≡ mark → span.from ≤ span.to → P (all_rows (take mark batches) ++ rows_in batches span)
    → P (all_rows (take span.to batches))
whole_rows P batches span mark from some =
    subst P (ap (λ (n : ℕ). all_rows (take n batches) ++ rows_in batches span) (sym from)
    ∙ sym (rows_split batches span some))

pub count_of : (root : PlainRoot) (said : StoredCuboid) (w : Warehouse) (old : Cuboid) → HasStored root said w old
    → length root.batches ≡ length w.batches
count_of root said w old has = ap (λ (r : PlainRoot). length r.batches) has.root_is ∙ length-map w.batches length

-- the view of a warehouse's cuboid is one of its layout
pub own_layout : (c : Content) (root : PlainRoot) (said : StoredCuboid) (w : Warehouse) (old : Cuboid) (view : View)
    → Represents c w → HasStored root said w old → index_of view ≡ said.view → index_of view < view_count w.layout
own_layout c root said w old view represents has number =
    let low : index_of old.view < view_count w.layout = view_within c w represents said.view old has.found in
    omega (arith, low, number, ap (λ (s : StoredCuboid). s.view) has.said_is)
