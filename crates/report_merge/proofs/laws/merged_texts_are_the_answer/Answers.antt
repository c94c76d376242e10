use Rattle.report_merge.proofs.LawsLemmas.{merged_texts_are_the_answer}
use Rattle.partial_reports.proofs.HeadTexts.{heads_read_back}
use Rattle.partial_reports.proofs.AnswerMerges.{answers_merge, partial_answers_suffice}
use Rattle.partial_reports.proofs.ReadBack.{reports_read_back}
use Rattle.query_words.proofs.Once.{spell_one_query}
use Rattle.report_merge.proofs.Counted.{counts_are_appended}
use Rattle.report_merge.proofs.laws.merged_texts_are_the_answer.Goals as goal

pub returns : goal.returns
returns c =
    merged_texts_are_the_answer heads_read_back spell_one_query reports_read_back
    answers_merge partial_answers_suffice
    (counts_are_appended partial_answers_suffice)
