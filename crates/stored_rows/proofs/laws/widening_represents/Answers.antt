use Rattle.stored_rows.proofs.Widened.{represents_widened}
use Rattle.stored_rows.proofs.laws.widening_represents.Goals as goal

pub returns : goal.returns
returns c = represents_widened
