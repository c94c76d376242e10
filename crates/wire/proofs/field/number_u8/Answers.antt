use Rattle.wire.proofs.CallerLemmas.{spelling-number}
use Rattle.wire.proofs.FieldLemmas.{number-byte}
use Rattle.wire.proofs.field.number_u8.Goals as goal

pub returns : goal.returns
returns c =
    rw (number-byte c.args.field.now) (spelling-number 1 c.args.field.now c.requires (λ k. (c.type_inv.field k).fits))
