use Rattle.view_choice.proofs.LawsLemmas.{greedy_list}
use Rattle.view_choice.proofs.laws.some_greedy_list.Goals as goal

pub returns : goal.returns
returns g c = greedy_list
