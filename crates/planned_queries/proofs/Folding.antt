-- Batches of a warehouse that are counted into a fold, one after another.
use Rattle.std.proofs.Common.{◌≡◌, ◌∙◌, ℕ, ◌+◌, ◌≤◌, List, ◌++◌, Some, length, slice_get, take, sym, ap, subst}
use Rattle.std.proofs.Common.{add-one}
use Rattle.cube_model.specs.declared.rows.DimRows.{DimRows}
use Rattle.cube_model.specs.declared.rows.LineOrder.{LineOrder}
use Rattle.cube_model.specs.Admission.{all_rows}
use Rattle.group_tallies.specs.Limits.{AreFoldable}
use Rattle.mode_folds.specs.States.{CanTakeByModes, ModeFoldState, RepresentsModeRows, TakesByModes}
use Rattle.object_store.specs.Content.{Content}
use Rattle.warehouse_objects.specs.Represents.{Represents}
use Rattle.warehouse_objects.specs.Warehouse.{Warehouse}
use Rattle.warehouse_objects.proofs.Batches.{rows_next}
use Rattle.warehouse_objects.proofs.CallerLemmas.{foldable}

-- the first batches of a warehouse may be folded
pub foldable_first : (c : Content) (w : Warehouse) → Represents c w → (dims : DimRows) (count : ℕ) → dims ≡ w.rows
    → count ≤ length w.batches → AreFoldable dims (all_rows (take count w.batches))
foldable_first c w represents dims count same le =
    subst (λ (d : DimRows). AreFoldable d (all_rows (take count w.batches))) (sym same)
    (foldable w.rows w.batches represents.batches count le)

module _ (w : Warehouse) (before : ℕ) (rows : List LineOrder) (here : slice_get w.batches before ≡ Some rows) where
  -- the rows of the batches up to the next one
  next_rows : all_rows (take (before + 1) w.batches) ≡ all_rows (take before w.batches) ++ rows
  next_rows = ap (λ (n : ℕ). all_rows (take n w.batches)) (add-one before) ∙ rows_next w.batches before rows here

  module _ (dims : DimRows) (old : ModeFoldState)
      (folds : RepresentsModeRows dims old (all_rows (take before w.batches))) where
    pub folds_next : (new : ModeFoldState) → TakesByModes dims old rows new
        → RepresentsModeRows dims new (all_rows (take (before + 1) w.batches))
    folds_next new takes = subst (λ (l : List LineOrder). RepresentsModeRows dims new l) (sym next_rows)
        (takes.represents (all_rows (take before w.batches)) folds)

    pub can_take_next : AreFoldable dims (all_rows (take (before + 1) w.batches)) → CanTakeByModes dims old rows
    can_take_next all =
        (all_rows (take before w.batches), (folds, subst (λ (l : List LineOrder). AreFoldable dims l) next_rows all))
