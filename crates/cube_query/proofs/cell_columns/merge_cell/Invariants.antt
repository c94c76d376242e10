use Rattle.std.proofs.Common.{◌≡◌, ◌≢◌, ℕ, ◌∷◌, [], Some}
use Rattle.group_tallies.specs.Columns.{tallies_at}
use Rattle.cube_query.proofs.CellMerges.{AreMergedBelow}
use Rattle.cube_query.proofs.cell_columns.merge_cell.Given as goal

abbrev pub invariant-loop-i : goal.invariant-loop-i
invariant-loop-i l = record {
  below : AreMergedBelow l.i l.aggs (l.cell ∷ []) (Some l.slot ∷ []) l.initial.columns l.columns;
  others : (other : ℕ) → other ≢ l.slot → tallies_at l.columns other ≡ tallies_at l.initial.columns other;
}
