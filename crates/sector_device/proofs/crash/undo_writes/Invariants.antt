use Rattle.std.proofs.Common.{ℕ, ◌≡◌, ◌<◌, ◌≤◌, reverse, length, slice_index, slice_index_or, []}
use Rattle.sector_device.specs.Memory.{replaced, candidates}
use Rattle.sector_device.proofs.crash.undo_writes.Given as goal

abbrev pub invariant-loop-last : goal.invariant-loop-last
invariant-loop-last l = record {
  enough : (i : ℕ) → i < length l.left → slice_index l.left i ≤ length (replaced (reverse l.rest) i);
  named : (i : ℕ) → i < length l.left →
      slice_index_or (candidates l.sectors (reverse l.rest) i) (slice_index l.left i) []
      ≡ slice_index_or (candidates l.fn.sectors (reverse l.log) i) (slice_index l.fn.left i) [];
}

abbrev pub decreases-loop-last : goal.decreases-loop-last
decreases-loop-last l = length l.rest
