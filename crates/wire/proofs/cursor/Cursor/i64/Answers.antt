use Rattle.std.proofs.Common.{rules}
use Rattle.wire.proofs.FieldLemmas.{reads_signed}
use Rattle.wire.proofs.cursor.Cursor.i64.Goals as goal

pub returns-clause-value : goal.returns-clause-value
returns-clause-value c = reads_signed c.number_i64.result _ _ _ c.in_ok-field.ensures.value (search rules)
    c.number_i64.ensures
