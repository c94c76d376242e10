use Rattle.std.proofs.Common.{refl}
use Rattle.std.proofs.Math.ListN.{replicate}
use Rattle.stored_rows.proofs.TextPartLemmas.{written}
use Rattle.stored_rows.proofs.text_part.header_of.Goals as goal

pub returns : goal.returns
returns c =
    written (replicate 12 0) c.write_bytes.new.to c.write_u32.new.to c.write_u32-2.new.to c.args.number c.args.rows refl
    c.write_bytes.ensures c.write_u32.ensures c.write_u32-2.ensures
