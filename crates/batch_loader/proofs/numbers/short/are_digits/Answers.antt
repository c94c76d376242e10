use Rattle.std.proofs.Common.{rules}
use Rattle.batch_loader.proofs.NumbersLemmas.{AreDigits-unmarked}
use Rattle.batch_loader.proofs.numbers.short.are_digits.Goals as goal

pub returns : goal.returns
returns c = λ is.
    AreDigits-unmarked c.args.text.now c.args.start c.args.count c.word_at.result c.marks_above_nine-others.result
    c.requires.some c.requires.few c.requires.room (λ i. (c.type_inv.text i).fits)
    c.word_at.ensures c.marks_above_nine-others.ensures (search rules)
