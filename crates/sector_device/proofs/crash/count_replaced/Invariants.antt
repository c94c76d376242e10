use Rattle.std.proofs.Common.{ℕ, ◌≡◌, ◌<◌, ◌+◌, reverse, length, slice_index}
use Rattle.sector_device.specs.Memory.{replaced}
use Rattle.sector_device.proofs.crash.count_replaced.Given as goal

abbrev pub invariant-loop-last : goal.invariant-loop-last
invariant-loop-last l =
    (i : ℕ) → i < length l.counts → slice_index l.counts i + length (replaced (reverse l.rest) i)
    ≡ length (replaced (reverse l.log) i)

abbrev pub decreases-loop-last : goal.decreases-loop-last
decreases-loop-last l = length l.rest
