use Rattle.std.proofs.Common.{◌≡◌, take, length}
use Rattle.column_kernels.specs.Sums.{numbers_of}
use Rattle.column_kernels.proofs.lanes.loaded.Given as goal

abbrev pub invariant-loop-i : goal.invariant-loop-i
invariant-loop-i l = (take l.i l.lanes ≡ numbers_of (take l.i l.numbers)) × (length l.lanes ≡ 32)
