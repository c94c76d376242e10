use Rattle.std.proofs.Common.{◌<◌, ◌^◌, ℕ, List, length, get_or, refl, arith}
use Rattle.column_kernels.proofs.Bits.{ones_few}
use Rattle.column_kernels.proofs.Blocks.{count_next}
use Rattle.column_kernels.proofs.mask.ones.Goals as goal

pub loop-i-preserved : goal.loop-i-preserved
loop-i-preserved c =
    let words : List ℕ = c.args.words.now in
    let i : ℕ = c.loop-i.i in
    let lt : i < length words = c.loop-i-test.true in
    let word : ℕ = get_or words i 0 in
    let small : word < 2 ^ 32 = (c.type_inv.words i).fits in (
      omega (arith, c.loop-i.invariant.0, count_next words i word lt refl small),
      omega (arith, c.loop-i.invariant.1, ones_few word small),
    )
