use Rattle.partial_reports.proofs.AnswerMerges.{parts_make_the_answer}
use Rattle.partial_reports.proofs.merge_laws.parts_make_the_answer.Goals as goal

pub returns : goal.returns
returns c = parts_make_the_answer
