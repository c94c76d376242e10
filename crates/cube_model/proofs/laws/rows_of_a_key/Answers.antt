use Rattle.cube_model.proofs.LawsLemmas.{rows_of_a_key}
use Rattle.cube_model.proofs.laws.rows_of_a_key.Goals as goal

pub returns : goal.returns
returns c = rows_of_a_key
