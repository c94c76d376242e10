use Rattle.cube_model.proofs.LawsLemmas.{fraction_is_the_one}
use Rattle.cube_model.proofs.laws.fraction_is_the_one.Goals as goal

pub returns : goal.returns
returns c = fraction_is_the_one
