use Rattle.batch_loader.proofs.NumbersLemmas.{decimal-spread}
use Rattle.batch_loader.proofs.numbers.short.value_of_eight.Goals as goal

pub returns : goal.returns
returns c =
    λ digits spread. rw (c.byte.ensures.value, c.byte-2.ensures.value, c.byte-3.ensures.value, c.byte-4.ensures.value)
    (decimal-spread c.args.number digits spread)
