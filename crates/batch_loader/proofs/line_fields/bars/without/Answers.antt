use Rattle.std.proofs.Common.{w64}
use Rattle.std.proofs.lemmas.Nat.Bits.{bit_at_clear_same, bit_at_clear_other}
use Rattle.batch_loader.proofs.line_fields.bars.without.Goals as goal

pub returns : goal.returns
returns c = record {
  same = bit_at_clear_same w64 c.args.bars c.args.bit c.requires;
  others = λ k below other. bit_at_clear_other w64 c.args.bars c.args.bit c.requires k below other;
}
