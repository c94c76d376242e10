use Rattle.std.proofs.Common.{◌≡◌, take}
use Rattle.std.specs.Simd.Lanes.{mask_l, zip2}
use Rattle.column_kernels.specs.Masks.{lies_in}
use Rattle.column_kernels.proofs.mask.rest_mask.Given as goal

abbrev pub invariant-loop-i : goal.invariant-loop-i
invariant-loop-i l = l.word ≡ mask_l (take l.i (zip2 (lies_in l.quantity l.discount) l.quantities l.discounts))
