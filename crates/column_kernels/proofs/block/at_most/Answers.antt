use Rattle.std.proofs.Common.{nat_le, arith}
use Rattle.std.specs.Int.{w8}
use Rattle.std.proofs.lemmas.Simd.{bitmask_splat}
use Rattle.column_kernels.proofs.block.at_most.Goals as goal

pub returns : goal.returns
returns c = bitmask_splat w8 nat_le c.args.lanes 32 c.args.bound c.requires (omega arith)
