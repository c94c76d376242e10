use Rattle.partial_reports.proofs.ReadBack.{reports_read_back}
use Rattle.partial_reports.proofs.merge_laws.reports_read_back.Goals as goal

pub returns : goal.returns
returns c = reports_read_back
