use Rattle.partial_reports.proofs.HeadTexts.{heads_read_back}
use Rattle.partial_reports.proofs.laws.heads_read_back.Goals as goal

pub returns : goal.returns
returns c = heads_read_back
