use Rattle.partial_reports.proofs.MergeLawsLemmas.{merged_reports_are_the_report}
use Rattle.partial_reports.proofs.merge_laws.merged_reports_are_the_report.Goals as goal

pub returns : goal.returns
returns c = merged_reports_are_the_report
