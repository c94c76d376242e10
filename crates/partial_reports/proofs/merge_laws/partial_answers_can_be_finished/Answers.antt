use Rattle.partial_reports.proofs.MergeLawsLemmas.{partial_answers_can_be_finished}
use Rattle.partial_reports.proofs.merge_laws.partial_answers_can_be_finished.Goals as goal

pub returns : goal.returns
returns c = partial_answers_can_be_finished
