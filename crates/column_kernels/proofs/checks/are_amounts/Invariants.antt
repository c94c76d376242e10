use Rattle.std.proofs.Common.{◌≡◌, take}
use Rattle.column_kernels.specs.Checks.{all_below}
use Rattle.column_kernels.specs.Sums.{numbers_of}
use Rattle.column_kernels.proofs.checks.are_amounts.Given as goal

abbrev pub invariant-loop-bytes : goal.invariant-loop-bytes
invariant-loop-bytes l = l.fine ≡ all_below 9223372036854775808 (numbers_of (take l.bytes-index l.column))
