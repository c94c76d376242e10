use Rattle.std.proofs.Common.{◌≡◌, ℕ, List, length, take}
use Rattle.cube_model.specs.declared.measure.Agg.{Agg}
use Rattle.cube_model.specs.declared.rows.LineOrder.{LineOrder}
use Rattle.group_tallies.specs.Coarser.{gathered, AddsIn, CanMergeTallies}
use Rattle.group_tallies.proofs.columns.merge_in.Given as goal

abbrev pub invariant-loop-place : goal.invariant-loop-place
invariant-loop-place l = (length l.column ≡ length l.initial.column)
    × ((agg : Agg) (part : ℕ × ℕ → List LineOrder) → CanMergeTallies agg l.initial.column l.sources l.targets part
    → AddsIn agg (λ slot. gathered slot part (take l.place l.sources) (take l.place l.targets)) l.initial.column
    l.column)
