use Rattle.report_formats.proofs.LawsLemmas.{csv-reads_back}
use Rattle.report_formats.proofs.laws.csv_reads_back.Goals as goal

pub returns : goal.returns
returns c = csv-reads_back
