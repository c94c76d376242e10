use Rattle.partial_reports.proofs.AnswerMerges.{answers_merge}
use Rattle.partial_reports.proofs.merge_laws.answers_merge.Goals as goal

pub returns : goal.returns
returns c = answers_merge
