use Rattle.query_words.proofs.Refusals.{no_subject}
use Rattle.query_words.proofs.names.subject.Goals as goal

pub returns-in-None : goal.returns-in-None
returns-in-None c = no_subject c.args.name.now c.number_subject.result c.in-None.ensures c.number_subject.ensures
