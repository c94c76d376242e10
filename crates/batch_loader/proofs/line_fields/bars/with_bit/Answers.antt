use Rattle.std.proofs.Common.{w64}
use Rattle.std.proofs.lemmas.Nat.Bits.{bit_at_set_same, bit_at_set_other}
use Rattle.batch_loader.proofs.line_fields.bars.with_bit.Goals as goal

pub returns : goal.returns
returns c = record {
  same = bit_at_set_same w64 c.args.bars c.args.bit c.requires;
  others = λ k other. bit_at_set_other w64 c.args.bars c.args.bit c.requires k other;
}
