-- Runs that are merged one after another.
use Rattle.std.proofs.Common.{◌≡◌, ◌∙◌, zero, suc, sym, ap, refl, subst, arith, inl, inr, ℕ, ◌+◌, ◌≤◌, ◌==◌, true}
use Rattle.std.proofs.Common.{false, cond, List, [], ◌∷◌, length, take, slice_get, Some, All}
use Rattle.std.proofs.lemmas.List.Elements.{All-head, All-tail}
use Rattle.std.proofs.lemmas.List.Sums.{sum_by-take-le, sum_by_push}
use Rattle.cube_model.specs.declared.fault.Fault.{Fault}
use Rattle.cube_model.specs.declared.fault.Fault.TheVariants.{Memory}
use Rattle.cuboid_cells.specs.declared.cell.Cell.{Cell}
use Rattle.cuboid_cells.specs.Cells.{AreProperCells, CellFits, PlainCells, cell_at, key_as_number}
use Rattle.cuboid_cells.specs.Merges.{IsMergeFault, IsMergeOf, PassesType, merged, merged_if_any}
use Rattle.cuboid_cells.specs.Steps.{cells_of}
use Rattle.cuboid_upkeep.proofs.CallerLemmas.{ascending_apart, one_list, only_one}
use Rattle.warehouse_objects.specs.Represents.{Follow}
use Rattle.warehouse_objects.specs.Warehouse.{StoredRun, cell_count}
use Rattle.warehouse_objects.proofs.Batches.{take_next}
use Rattle.stored_cuboids.specs.Merged.{AreMergedWith}

-- ---- one merge

-- cells have one merge
pub merge_one : (one other new also : PlainCells) → IsMergeOf one other new → IsMergeOf one other also → new ≡ also
merge_one one other new also is too =
    let view : new.view ≡ also.view = is.view ∙ sym too.view in
    let list = one_list new.cells also.cells is.cells.ascending too.cells.ascending
    (λ key. is.cells.by_key key ∙ sym (too.cells.by_key key)) in
    λ i. record { view = view i; cells = list i }

-- what each cell has, the one of a key has
at_key : (P : Cell → Type 0) (number : ℕ) (cells : List Cell) (found : Cell) → cell_at number cells ≡ Some found
    → All P cells → P found
at_key P number [] found is all = absurd cc
at_key P number (cell ∷ cells) found is all =
    (elim (key_as_number cell.key == number) as
    (λ t. cond t (Some cell) (cell_at number cells) ≡ Some found → P found) [
      | true ↦ λ here. (let same : cell ≡ found = cc in subst P same (All-head P cell cells all))
      | false ↦ λ there. at_key P number cells found there (All-tail P cell cells all)
    ]) is

-- cells that are not merged have no merge that keeps the rules
pub no_merge : (one other : PlainCells) (fault : Fault) → AreProperCells one → AreProperCells other
    → IsMergeFault one other fault
    → (fault ≡ Memory → ⊥) → (new : PlainCells) → IsMergeOf one other new → AreProperCells new → ⊥
no_merge one other fault proper also cause other_fault new merge rules = by cause
  where
    passes : PassesType one.cells other.cells → ⊥
    passes p =
        let number : ℕ = key_as_number p.left.key in
        let left : cell_at number one.cells ≡ Some p.left =
        only_one one.cells p.left (ascending_apart one.cells proper.rules.ascending) p.in_one in
        let right : cell_at number other.cells ≡ Some p.right =
        ap (λ (n : ℕ). cell_at n other.cells) p.key
        ∙ only_one other.cells p.right (ascending_apart other.cells also.rules.ascending) p.in_other in
        let both : cell_at number new.cells ≡ Some (merged p.left p.right) =
        merge.cells.by_key number ∙ (λ i. merged_if_any (left i) (right i)) in
        p.passes (at_key CellFits number new.cells (merged p.left p.right) both rules.fit)

    by : IsMergeFault one other fault → ⊥
    by (inl memory) = other_fault memory
    by (inr (inl bad)) = passes bad.1
    by (inr (inr many)) =
        let same : many.1.cells ≡ new.cells =
        one_list many.1.cells new.cells many.1.are.ascending merge.cells.ascending
        (λ key. many.1.are.by_key key ∙ sym (merge.cells.by_key key)) in
        absurd (omega (arith, many.1.many, rules.rules.few, ap length same))

-- ---- runs

-- runs have one merge
pub merged_one : (cells : PlainCells) (runs : List StoredRun) (new also : PlainCells) → AreMergedWith cells runs new
    → AreMergedWith cells runs also → new ≡ also
merged_one cells [] new also is too = is ∙ sym too
merged_one cells (run ∷ runs) new also is too =
    let same : is.0 ≡ too.0 = merge_one cells (cells_of cells.view run.cells) is.0 too.0 is.1 too.1 in
    merged_one too.0 runs new also (subst (λ (m : PlainCells). AreMergedWith m runs new) same is.3) too.3

-- of the view of the first cells
pub merged_view : (cells : PlainCells) (runs : List StoredRun) (new : PlainCells) → AreMergedWith cells runs new
    → new.view ≡ cells.view
merged_view cells [] new is = ap (λ (m : PlainCells). m.view) is
merged_view cells (run ∷ runs) new is = merged_view is.0 runs new is.3 ∙ is.1.view

-- one run more
pub merged_more : (cells : PlainCells) (runs : List StoredRun) (r : ℕ) (run : StoredRun) (mid new : PlainCells)
    → slice_get runs r ≡ Some run
    → AreMergedWith cells (take r runs) mid → IsMergeOf mid (cells_of mid.view run.cells) new → AreProperCells new
    → AreMergedWith cells (take (suc r) runs) new
merged_more cells [] r run mid new here so_far merge proper = absurd cc
merged_more cells (first ∷ runs) zero run mid new here so_far merge proper =
    let same : run ≡ first = cc in (
      new,
      subst (λ (x : StoredRun). IsMergeOf cells (cells_of cells.view x.cells) new) same
          (subst (λ (m : PlainCells). IsMergeOf m (cells_of m.view run.cells) new) so_far merge),
      proper,
      refl,
    )
merged_more cells (first ∷ runs) (suc r) run mid new here so_far merge proper =
    (so_far.0, so_far.1, so_far.2, merged_more so_far.0 runs r run mid new here so_far.3 merge proper)

-- where all runs have a merge, the next one can be merged
pub merged_next : (cells : PlainCells) (runs : List StoredRun) (r : ℕ) (run : StoredRun) (mid whole : PlainCells)
    → slice_get runs r ≡ Some run
    → AreMergedWith cells (take r runs) mid → AreMergedWith cells runs whole → (next : PlainCells)
    × IsMergeOf mid (cells_of mid.view run.cells) next × AreProperCells next
merged_next cells [] r run mid whole here so_far all = absurd cc
merged_next cells (first ∷ runs) zero run mid whole here so_far all =
    let same : first ≡ run = cc in (
      all.0,
      subst (λ (m : PlainCells). IsMergeOf m (cells_of m.view run.cells) all.0) (sym so_far)
          (subst (λ (x : StoredRun). IsMergeOf cells (cells_of cells.view x.cells) all.0) same all.1),
      all.2,
    )
merged_next cells (first ∷ runs) (suc r) run mid whole here so_far all =
    let same : so_far.0 ≡ all.0 = merge_one cells (cells_of cells.view first.cells) so_far.0 all.0 so_far.1 all.1 in
    merged_next all.0 runs r run mid whole here
    (subst (λ (m : PlainCells). AreMergedWith m (take r runs) mid) same so_far.3) all.3

-- ---- from one batch to another

pub follow_one : (from : ℕ) (runs : List StoredRun) (a b : ℕ) → Follow from runs a → Follow from runs b → a ≡ b
follow_one from [] a b is too = is ∙ sym too
follow_one from (run ∷ runs) a b is too = follow_one run.span.to runs a b is.1 too.1

-- a run begins where those before it end
pub follow_next : (from : ℕ) (runs : List StoredRun) (r : ℕ) (run : StoredRun) (end mark : ℕ)
    → slice_get runs r ≡ Some run → Follow from (take r runs) end → Follow from runs mark → run.span.from ≡ end
follow_next from [] r run end mark here so_far all = absurd cc
follow_next from (first ∷ runs) zero run end mark here so_far all =
    let same : run ≡ first = cc in ap (λ (x : StoredRun). x.span.from) same ∙ all.0 ∙ sym so_far
follow_next from (first ∷ runs) (suc r) run end mark here so_far all =
    follow_next first.span.to runs r run end mark here so_far.1 all.1

pub follow_more : (from : ℕ) (runs : List StoredRun) (r : ℕ) (run : StoredRun) (end : ℕ) → slice_get runs r ≡ Some run
    → Follow from (take r runs) end → run.span.from ≡ end → Follow from (take (suc r) runs) run.span.to
follow_more from [] r run end here so_far begins = absurd cc
follow_more from (first ∷ runs) zero run end here so_far begins =
    let same : first ≡ run = cc in
    (ap (λ (x : StoredRun). x.span.from) same ∙ begins ∙ so_far, ap (λ (x : StoredRun). x.span.to) (sym same))
follow_more from (first ∷ runs) (suc r) run end here so_far begins =
    (so_far.0, follow_more first.span.to runs r run end here so_far.1 begins)

-- ---- how many cells

pub cells_more : (runs : List StoredRun) (r : ℕ) (run : StoredRun) → slice_get runs r ≡ Some run
    → cell_count (take (suc r) runs) ≡ cell_count (take r runs) + length run.cells
cells_more runs r run here =
    ap cell_count (take_next runs r run here) ∙ sum_by_push (λ (x : StoredRun). length x.cells) (take r runs) run

pub cells_least : (runs : List StoredRun) (r : ℕ) → cell_count (take r runs) ≤ cell_count runs
cells_least runs r = sum_by-take-le (λ (x : StoredRun). length x.cells) runs r
