use Rattle.batch_admission.proofs.FoundLaws.{none-clean}
use Rattle.batch_admission.proofs.findings.Findings.none.Goals as goal

pub returns-clause-clean : goal.returns-clause-clean
returns-clause-clean c = rw c.of.ensures (none-clean c.args.totals c.requires)
