use Rattle.planned_queries.proofs.ModesPlanned.{planned_without_ship_modes}
use Rattle.planned_queries.proofs.laws.planned_without_ship_modes.Goals as goal

pub returns : goal.returns
returns c = planned_without_ship_modes
