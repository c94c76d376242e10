use Rattle.wire.proofs.FieldLemmas.{reads_number}
use Rattle.wire.proofs.cursor.Cursor.next_u64.Goals as goal

pub returns : goal.returns
returns c = reads_number 8 _ _ _ _ c.next_bytes.ensures c.number_u64.type_inv c.number_u64.ensures
