use Rattle.report_formats.proofs.LawsLemmas.{tsv-reads_back}
use Rattle.report_formats.proofs.laws.tsv_reads_back.Goals as goal

pub returns : goal.returns
returns c = tsv-reads_back
