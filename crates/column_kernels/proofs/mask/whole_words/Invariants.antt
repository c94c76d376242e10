use Rattle.std.proofs.Common.{◌≡◌, take}
use Rattle.std.specs.Simd.Lanes.{mask_l, zip2}
use Rattle.column_kernels.specs.Masks.{lies_in}
use Rattle.column_kernels.proofs.mask.whole_words.Given as goal

abbrev pub invariant-loop-i : goal.invariant-loop-i
invariant-loop-i l =
    l.words.items
    ≡ take l.i (zip2 (λ quantities discounts. mask_l (zip2 (lies_in l.quantity l.discount) quantities discounts))
    l.quantities l.discounts)
