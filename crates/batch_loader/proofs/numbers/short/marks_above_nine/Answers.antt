use Rattle.batch_loader.proofs.NumbersLemmas.{marks_at}
use Rattle.batch_loader.proofs.numbers.short.marks_above_nine.Goals as goal

pub returns : goal.returns
returns c = λ k below. marks_at c.args.number k below
