use Rattle.warehouse_jobs.proofs.CallerLemmas.{answered_without_ship_modes}
use Rattle.warehouse_jobs.proofs.answer_laws.answered_without_ship_modes.Goals as goal

pub returns : goal.returns
returns c = answered_without_ship_modes
