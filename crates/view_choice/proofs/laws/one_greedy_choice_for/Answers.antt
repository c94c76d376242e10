use Rattle.std.proofs.Common.{◌<◌, arith}
use Rattle.lattice.proofs.Places.{index_below, one_view}
use Rattle.lattice.specs.Views.{index_of}
use Rattle.view_choice.specs.Cuboids.{cuboids_for}
use Rattle.view_choice.proofs.Members.{IsGreedy-unique}
use Rattle.view_choice.proofs.laws.one_greedy_choice_for.Goals as goal

pub returns : goal.returns
returns c = λ rows counts demanded k chosen others greedy also. IsGreedy-unique (cuboids_for rows counts demanded)
    (λ view other same.
    let below : index_of view < 512 = index_below view in
    let also_below : index_of other < 512 = index_below other in
    one_view view other (omega (arith, same, below, also_below)))
    k chosen others greedy also
