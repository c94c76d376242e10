use Rattle.batch_loader.proofs.NumbersLemmas.{short-value}
use Rattle.batch_loader.proofs.numbers.short.short_value.Goals as goal

pub returns : goal.returns
returns c =
    short-value c.args.text.now c.args.start c.args.count c.word_at.result c.value_of_eight.result c.requires.some
    c.requires.few c.requires.room (λ i. (c.type_inv.text i).fits)
    c.requires.digits c.word_at.ensures c.value_of_eight.ensures
