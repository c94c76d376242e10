use Rattle.view_choice.proofs.Members.{IsGreedy-unique}
use Rattle.view_choice.proofs.laws.one_greedy_list.Goals as goal

pub returns : goal.returns
returns g c = λ lattice k chosen others own greedy also. IsGreedy-unique lattice own k chosen others greedy also
