use Rattle.report_merge.proofs.Counted.{counts_are_appended}
use Rattle.partial_reports.proofs.AnswerMerges.{partial_answers_suffice}
use Rattle.report_merge.proofs.laws.counts_are_appended.Goals as goal

pub returns : goal.returns
returns c = counts_are_appended partial_answers_suffice
