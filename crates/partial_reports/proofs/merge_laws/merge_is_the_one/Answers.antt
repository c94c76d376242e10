use Rattle.partial_reports.proofs.TheOne.{merge_is_the_one}
use Rattle.partial_reports.proofs.merge_laws.merge_is_the_one.Goals as goal

pub returns : goal.returns
returns c = merge_is_the_one
