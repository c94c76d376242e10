use Rattle.partial_reports.proofs.MergeLawsLemmas.{neighbours_may_change_places}
use Rattle.partial_reports.proofs.merge_laws.neighbours_may_change_places.Goals as goal

pub returns : goal.returns
returns c = neighbours_may_change_places
