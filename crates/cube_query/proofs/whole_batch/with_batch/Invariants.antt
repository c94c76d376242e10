use Rattle.std.proofs.Common.{◌≡◌, ℕ, take}
use Rattle.column_kernels.specs.Masks.{selected_by}
use Rattle.group_tallies.specs.Columns.{tallies_at}
use Rattle.cube_query.specs.WholeBatch.{tallies_with_rows}
use Rattle.cube_query.proofs.whole_batch.with_batch.Given as goal

abbrev pub invariant-loop-place : goal.invariant-loop-place
invariant-loop-place l = (other : ℕ) → tallies_at l.merged.items other
    ≡ tallies_with_rows (take l.place l.aggs) (selected_by l.mask l.batch) l.slot other
    (tallies_at (take l.place l.columns) other)
