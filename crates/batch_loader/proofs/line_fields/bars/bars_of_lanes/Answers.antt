use Rattle.std.proofs.Common.{arith, w8, ◌==◌}
use Rattle.std.proofs.lemmas.Simd.{bitmask_splat}
use Rattle.batch_loader.proofs.line_fields.bars.bars_of_lanes.Goals as goal

pub returns : goal.returns
returns c = bitmask_splat w8 (λ a b. a == b) c.args.lanes 64 124 c.requires (omega arith)
