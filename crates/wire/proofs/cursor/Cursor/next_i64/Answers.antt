use Rattle.std.proofs.Common.{rules}
use Rattle.wire.proofs.FieldLemmas.{reads_signed}
use Rattle.wire.proofs.cursor.Cursor.next_i64.Goals as goal

pub returns : goal.returns
returns c = reads_signed c.number_i64.result _ _ _ c.next_bytes.ensures (search rules) c.number_i64.ensures
