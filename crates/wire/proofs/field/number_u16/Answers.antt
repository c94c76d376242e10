use Rattle.wire.proofs.CallerLemmas.{spelling-number}
use Rattle.wire.proofs.field.number_u16.Goals as goal

pub returns : goal.returns
returns c = rw c.read_u16.ensures (spelling-number 2 c.args.field.now c.requires (λ k. (c.type_inv.field k).fits))
