use Rattle.partial_reports.proofs.MergeLawsLemmas.{partial_answers_are_readable}
use Rattle.partial_reports.proofs.merge_laws.partial_answers_are_readable.Goals as goal

pub returns : goal.returns
returns c = partial_answers_are_readable
