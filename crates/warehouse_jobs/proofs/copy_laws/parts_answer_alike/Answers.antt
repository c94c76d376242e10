use Rattle.warehouse_jobs.proofs.CopyLawsLemmas.{parts_alike}
use Rattle.warehouse_jobs.proofs.copy_laws.parts_answer_alike.Goals as goal

pub returns : goal.returns
returns c = parts_alike
