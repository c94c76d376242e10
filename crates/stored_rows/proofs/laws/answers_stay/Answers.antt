use Rattle.stored_rows.proofs.Answers.{answers_kept}
use Rattle.stored_rows.proofs.laws.answers_stay.Goals as goal

pub returns : goal.returns
returns c = answers_kept
