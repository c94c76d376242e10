use Rattle.wire.proofs.FieldLemmas.{reads_number}
use Rattle.wire.proofs.cursor.Cursor.u64.Goals as goal

pub returns-clause-value : goal.returns-clause-value
returns-clause-value c = reads_number 8 _ _ _ _ c.in_ok-field.ensures.value c.number_u64.type_inv c.number_u64.ensures
