use Rattle.query_words.proofs.Signs.{no_sign}
use Rattle.query_words.proofs.conditions.no_subject.Goals as goal

pub returns-then-contains-3 : goal.returns-then-contains-3
returns-then-contains-3 c = no_sign c.args.word c.args.name.now c.of.result c.requires.name c.requires.cut c.of.ensures
