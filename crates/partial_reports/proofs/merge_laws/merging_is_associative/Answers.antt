use Rattle.partial_reports.proofs.AnswerMerges.{merging_is_associative}
use Rattle.partial_reports.proofs.merge_laws.merging_is_associative.Goals as goal

pub returns : goal.returns
returns c = merging_is_associative
