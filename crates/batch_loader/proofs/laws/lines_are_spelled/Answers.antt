use Rattle.batch_loader.proofs.LawsLemmas.{lines_are_spelled}
use Rattle.batch_loader.proofs.laws.lines_are_spelled.Goals as goal

pub returns : goal.returns
returns c = lines_are_spelled
