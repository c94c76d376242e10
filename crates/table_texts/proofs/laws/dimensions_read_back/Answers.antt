use Rattle.table_texts.proofs.LawsLemmas.{dimensions-read_back}
use Rattle.batch_loader.proofs.LawsLemmas.{fields_are_spelled, lines_are_spelled}
use Rattle.table_texts.proofs.laws.dimensions_read_back.Goals as goal

pub returns : goal.returns
returns c = dimensions-read_back lines_are_spelled fields_are_spelled
