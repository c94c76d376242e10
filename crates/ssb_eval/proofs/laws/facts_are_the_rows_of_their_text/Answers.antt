use Rattle.ssb_eval.proofs.LawsLemmas.{facts-rows}
use Rattle.ssb_eval.proofs.laws.facts_are_the_rows_of_their_text.Goals as goal

pub returns : goal.returns
returns c = λ dimensions text rows. facts-rows dimensions text rows
