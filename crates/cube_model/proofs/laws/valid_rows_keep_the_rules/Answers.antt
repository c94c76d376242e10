use Rattle.cube_model.proofs.LawsLemmas.{valid_rows_keep_the_rules}
use Rattle.cube_model.proofs.laws.valid_rows_keep_the_rules.Goals as goal

pub returns : goal.returns
returns c = valid_rows_keep_the_rules
