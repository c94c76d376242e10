use Rattle.lattice.proofs.LawsLemmas.{serves_below}
use Rattle.lattice.proofs.laws.serving_goes_down.Goals as goal

pub returns : goal.returns
returns c = serves_below
