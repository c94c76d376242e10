use Rattle.query_words.proofs.Signs.{too_long}
use Rattle.query_words.proofs.ranges.no_range.Goals as goal

pub returns-else-ends-eq1 : goal.returns-else-ends-eq1
returns-else-ends-eq1 c = too_long c.args.word c.args.range.now c.args.ends c.of-else-ends-eq1.result c.requires.ends
    c.requires.not_two
    c.if-ends-eq1.false c.of-else-ends-eq1.ensures
