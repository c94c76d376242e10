use Rattle.std.proofs.Common.{◌≡◌, take}
use Rattle.column_kernels.specs.Checks.{all_below, two_byte_codes}
use Rattle.column_kernels.proofs.checks.are_below.Given as goal

abbrev pub invariant-loop-code : goal.invariant-loop-code
invariant-loop-code l = l.fine ≡ all_below l.count (two_byte_codes (take l.code-index l.column))
