use Rattle.std.proofs.Common.{inr}
use Rattle.query_words.proofs.Shapes.{no_such_subject}
use Rattle.query_words.proofs.Signs.{reads_list, reads_range, unsigned}
use Rattle.query_words.proofs.conditions.read_condition.Goals as goal

pub returns-in_default : goal.returns-in_default
returns-in_default c = unsigned c.args.word c.of.result c.in_default.ensures c.of.ensures

pub returns-in_default-subject : goal.returns-in_default-subject
returns-in_default-subject c = inr (
  c.no_subject.ensures,
  no_such_subject c.args.word.now c.in-Some.name.now c.in-Some.sign
      c.in-Some.members.now c.in-Some.ensures c.in_default-subject.ensures,
)

pub returns-then-sign-eq61 : goal.returns-then-sign-eq61
returns-then-sign-eq61 c = reads_list c.args.word.now c.in-Some.name.now c.in-Some.sign c.in-Some.members.now
    c.in-Some-subject.subject
    c.read_list.result c.in-Some.ensures c.in-Some-subject.ensures c.if-sign-eq61.true c.read_list.ensures

pub returns-else-sign-eq61 : goal.returns-else-sign-eq61
returns-else-sign-eq61 c = reads_range c.args.word.now c.in-Some.name.now c.in-Some.sign c.in-Some.members.now
    c.in-Some-subject.subject
    c.read_range.result c.in-Some.ensures c.in-Some-subject.ensures c.if-sign-eq61.false c.read_range.ensures
