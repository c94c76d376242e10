use Rattle.std.proofs.Common.{arith, w64}
use Rattle.std.proofs.lemmas.Nat.Bits.{bit_at-trailing_zeros}
use Rattle.batch_loader.proofs.line_fields.bars.lowest.Goals as goal

pub returns : goal.returns
returns c =
    let place = bit_at-trailing_zeros w64 c.args.bars (omega (arith, c.requires)) c.ranges.bars.fits in
    record { bound = place.0; set = place.1; below = place.2 }
