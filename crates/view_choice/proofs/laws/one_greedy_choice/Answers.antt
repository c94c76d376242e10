use Rattle.lattice.proofs.Places.{one_view}
use Rattle.view_choice.specs.Cuboids.{cuboids}
use Rattle.view_choice.proofs.Members.{IsGreedy-unique}
use Rattle.view_choice.proofs.laws.one_greedy_choice.Goals as goal

pub returns : goal.returns
returns c = λ rows counts k chosen others greedy also. IsGreedy-unique (cuboids rows counts) one_view k chosen others
    greedy also
