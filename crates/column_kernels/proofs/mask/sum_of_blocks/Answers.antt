use Rattle.std.proofs.Common.{◌≤◌, ◌<◌, ℕ, List, ◌*◌, length, arith}
use Rattle.column_kernels.proofs.Blocks.{more_blocks}
use Rattle.column_kernels.proofs.mask.sum_of_blocks.Goals as goal

pub loop-i-preserved : goal.loop-i-preserved
loop-i-preserved g c =
    let numbers : List ℕ = g.C.Column.numbers c.args.column.now in
    let words : List ℕ = c.args.words.now in
    let i : ℕ = c.loop-i.i in
    let lt : i < length words = c.loop-i-test.true in
    let room : 32 * length words ≤ length numbers = c.requires.rows in (
      omega (arith, c.loop-i.invariant.0, c.block_sum-sum.ensures.value, more_blocks words i numbers lt room),
      omega (arith, c.loop-i.invariant.1, c.block_sum-sum.ensures.small),
    )
