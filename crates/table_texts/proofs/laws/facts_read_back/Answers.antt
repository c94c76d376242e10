use Rattle.table_texts.proofs.LawsLemmas.{facts-read_back}
use Rattle.batch_loader.proofs.LawsLemmas.{fields_are_spelled, lines_are_spelled}
use Rattle.table_texts.proofs.laws.facts_read_back.Goals as goal

pub returns : goal.returns
returns c = facts-read_back lines_are_spelled fields_are_spelled
