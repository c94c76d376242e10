use Rattle.mode_queries.proofs.Without.{answers_without_ship_modes}
use Rattle.mode_queries.proofs.laws.answers_without_ship_modes.Goals as goal

pub returns : goal.returns
returns c = answers_without_ship_modes
