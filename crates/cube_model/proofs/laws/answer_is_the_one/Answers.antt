use Rattle.cube_model.proofs.LawsLemmas.{answer_is_the_one}
use Rattle.cube_model.proofs.laws.answer_is_the_one.Goals as goal

pub returns : goal.returns
returns c = answer_is_the_one
