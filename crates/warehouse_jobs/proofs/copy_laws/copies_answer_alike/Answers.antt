use Rattle.warehouse_jobs.proofs.CopyLawsLemmas.{copies_alike}
use Rattle.warehouse_jobs.proofs.copy_laws.copies_answer_alike.Goals as goal

pub returns : goal.returns
returns c = copies_alike
