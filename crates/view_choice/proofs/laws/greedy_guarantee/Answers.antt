use Rattle.view_choice.proofs.Guarantee.{guarantee}
use Rattle.view_choice.proofs.laws.greedy_guarantee.Goals as goal

pub returns : goal.returns
returns g c = λ lattice k chosen positive greedy others all few. guarantee lattice k chosen others positive greedy all
    few
