use Rattle.wire.proofs.FieldLemmas.{signed_number}
use Rattle.wire.proofs.field.number_i64.Goals as goal

pub returns : goal.returns
returns c = signed_number c.args.field.now c.read_i64.result c.requires (λ k. (c.type_inv.field k).fits)
    c.read_i64.ensures
