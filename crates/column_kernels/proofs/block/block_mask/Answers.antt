use Rattle.std.proofs.Common.{rules}
use Rattle.std.proofs.Common.{ℕ, Bool, nat_le, ◌&&◌}
use Rattle.column_kernels.proofs.BlockLemmas.{row_bits, few_bits}
use Rattle.column_kernels.proofs.block.block_mask.Goals as goal

within : ℕ × ℕ → ℕ → Bool
within range x = nat_le range.0 x && nat_le x range.1

pub overflow_cast-result : goal.overflow_cast-result
unfolding within
overflow_cast-result c =
    record {
      fits = few_bits (within c.args.quantity) c.args.quantities.now c.range_mask.result c.range_mask-2.result 32
          c.range_mask.ensures (let long = c.told-quantities in search rules);
    }

pub returns : goal.returns
unfolding within
returns c =
    row_bits (within c.args.quantity) (within c.args.discount) c.args.quantities.now c.args.discounts.now
    c.range_mask.result c.range_mask-2.result c.range_mask.ensures c.range_mask-2.ensures
