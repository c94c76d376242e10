use Rattle.report_merge.proofs.LawsLemmas.{written_texts_can_be_merged}
use Rattle.partial_reports.proofs.AnswerMerges.{answers_merge, partial_answers_suffice}
use Rattle.report_merge.proofs.laws.written_texts_can_be_merged.Goals as goal

pub returns : goal.returns
returns c = written_texts_can_be_merged answers_merge partial_answers_suffice
