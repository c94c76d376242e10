use Rattle.partial_reports.proofs.MergeLawsLemmas.{merged_numbers_fit}
use Rattle.partial_reports.proofs.merge_laws.merged_numbers_fit.Goals as goal

pub returns : goal.returns
returns c = merged_numbers_fit
