use Rattle.std.proofs.Common.{ℕ, ◌≡◌, ◌<◌, ◌≤◌, ◌+◌, ◌-◌, ◌%◌, slice_index}
use Rattle.sector_device.specs.Picks.{several_below}
use Rattle.sector_device.proofs.crash.count_undone.Given as goal

abbrev pub invariant-loop-i : goal.invariant-loop-i
invariant-loop-i l = record {
  several : l.several ≡ several_below (λ k. slice_index l.fn.counts k + 1) l.i;
  few : l.several ≤ l.i;
  ahead : (k : ℕ) → l.i ≤ k → slice_index l.counts k ≡ slice_index l.fn.counts k;
  undone : (k : ℕ) → k < l.i →
      slice_index l.counts k
      ≡ slice_index l.fn.counts k - slice_index l.picks (several_below (λ j. slice_index l.fn.counts j + 1) k) %
      (slice_index l.fn.counts k + 1);
}
