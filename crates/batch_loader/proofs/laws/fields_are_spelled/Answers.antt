use Rattle.batch_loader.proofs.LawsLemmas.{fields_are_spelled}
use Rattle.batch_loader.proofs.laws.fields_are_spelled.Goals as goal

pub returns : goal.returns
returns c = fields_are_spelled
