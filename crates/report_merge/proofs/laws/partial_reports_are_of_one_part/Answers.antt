use Rattle.report_merge.proofs.Refusing.{partial_reports_are_of_one_part}
use Rattle.report_merge.proofs.laws.partial_reports_are_of_one_part.Goals as goal

pub returns : goal.returns
returns c = partial_reports_are_of_one_part
