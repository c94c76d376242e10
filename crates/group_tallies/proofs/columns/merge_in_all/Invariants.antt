use Rattle.std.proofs.Common.{◌≡◌, ℕ, List, length}
use Rattle.cube_model.specs.declared.measure.Agg.{Agg}
use Rattle.cube_model.specs.declared.rows.LineOrder.{LineOrder}
use Rattle.group_tallies.specs.Coarser.{gathered, CanMergeAll, MayMerge}
use Rattle.group_tallies.proofs.Columnwise.{AreAddedBelow}
use Rattle.group_tallies.proofs.columns.merge_in_all.Given as goal

abbrev pub invariant-loop-i : goal.invariant-loop-i
invariant-loop-i l = (length l.columns ≡ length l.initial.columns)
    × ((aggs : List Agg) (part : ℕ × ℕ → List LineOrder) → CanMergeAll aggs l.initial.columns l.sources l.targets part
    → AreAddedBelow l.i aggs (λ slot. gathered slot part l.sources l.targets) l.initial.columns l.columns)
    × MayMerge l.sources l.targets l.columns
