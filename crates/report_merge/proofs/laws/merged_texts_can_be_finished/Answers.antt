use Rattle.report_merge.proofs.LawsLemmas.{merged_texts_can_be_finished}
use Rattle.partial_reports.proofs.HeadTexts.{heads_read_back}
use Rattle.partial_reports.proofs.AnswerMerges.{answers_merge, partial_answers_suffice}
use Rattle.partial_reports.proofs.MergeLawsLemmas.{partial_answers_can_be_finished}
use Rattle.partial_reports.proofs.ReadBack.{reports_read_back}
use Rattle.query_words.proofs.Once.{spell_one_query}
use Rattle.report_merge.proofs.laws.merged_texts_can_be_finished.Goals as goal

pub returns : goal.returns
returns c =
    merged_texts_can_be_finished heads_read_back spell_one_query reports_read_back
    answers_merge
    partial_answers_suffice partial_answers_can_be_finished
