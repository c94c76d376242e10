use Rattle.std.proofs.Common.{nat_le, arith}
use Rattle.std.specs.Int.{w8}
use Rattle.column_kernels.proofs.BlockLemmas.{bitmask_splat_left}
use Rattle.column_kernels.proofs.block.at_least.Goals as goal

pub returns : goal.returns
returns c = bitmask_splat_left w8 nat_le c.args.lanes 32 c.args.bound c.requires (omega arith)
