use Rattle.std.proofs.Common.{nat_le}
use Rattle.column_kernels.proofs.BlockLemmas.{range_bits}
use Rattle.column_kernels.proofs.block.range_mask.Goals as goal

pub returns : goal.returns
returns c =
    let range = c.args.range in
    range_bits (nat_le range.0) (λ x. nat_le x range.1) c.args.lanes.now c.at_least.result c.at_most.result
    c.at_least.ensures c.at_most.ensures
