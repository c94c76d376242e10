use Rattle.partial_reports.proofs.HeadTexts.{partial_reports_read_back}
use Rattle.partial_reports.proofs.ReadBack.{reports_read_back}
use Rattle.partial_reports.proofs.laws.partial_reports_read_back.Goals as goal

pub returns : goal.returns
returns c = partial_reports_read_back reports_read_back
