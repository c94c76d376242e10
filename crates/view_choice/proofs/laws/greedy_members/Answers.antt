use Rattle.view_choice.proofs.Members.{IsGreedy-candidates, IsGreedy-differ}
use Rattle.view_choice.proofs.laws.greedy_members.Goals as goal

pub returns : goal.returns
returns g c = λ lattice k chosen greedy. record {
  candidates = IsGreedy-candidates lattice k chosen greedy;
  differ = IsGreedy-differ lattice k chosen greedy;
}
