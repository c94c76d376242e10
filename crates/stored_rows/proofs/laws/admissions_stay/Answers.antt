use Rattle.stored_rows.proofs.Answers.{admissions_kept}
use Rattle.stored_rows.proofs.laws.admissions_stay.Goals as goal

pub returns : goal.returns
returns c = admissions_kept
