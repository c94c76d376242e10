use Rattle.lattice.proofs.LawsLemmas.{answers_itself, answers_through, same_index, answers_decided}
use Rattle.lattice.proofs.Places.{one_view}
use Rattle.lattice.proofs.laws.answering_is_a_partial_order.Goals as goal

pub returns : goal.returns
returns c = record {
  itself = answers_itself;
  through = answers_through;
  both_ways = λ view other up down. one_view view other (same_index view other up down);
  decided = answers_decided;
}
