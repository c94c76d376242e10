use Rattle.std.proofs.Common.{refl}
use Rattle.dictionary.proofs.Read.{no_length}
use Rattle.dictionary.proofs.reading.take_text.Goals as goal

pub returns-in_err-count-clause-none : goal.returns-in_err-count-clause-none
returns-in_err-count-clause-none c = λ err. no_length _ (c.in_err-count.ensures.short.0 refl)
