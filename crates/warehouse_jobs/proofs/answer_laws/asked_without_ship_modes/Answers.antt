use Rattle.warehouse_jobs.proofs.CallerLemmas.{asked_without_ship_modes}
use Rattle.warehouse_jobs.proofs.answer_laws.asked_without_ship_modes.Goals as goal

pub returns : goal.returns
returns c = asked_without_ship_modes
