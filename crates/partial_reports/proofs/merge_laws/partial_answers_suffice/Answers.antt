use Rattle.partial_reports.proofs.AnswerMerges.{partial_answers_suffice}
use Rattle.partial_reports.proofs.merge_laws.partial_answers_suffice.Goals as goal

pub returns : goal.returns
returns c = partial_answers_suffice
