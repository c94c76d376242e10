use Rattle.std.proofs.Common.{refl}
use Rattle.view_choice.proofs.laws.paper_example.Goals as goal

pub returns : goal.returns
returns c = record { first_round = refl; chosen = refl; together = refl }
