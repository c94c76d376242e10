use Rattle.cube_model.proofs.LawsLemmas.{key_cmp-ties}
use Rattle.cube_model.proofs.KeyOrder.{key_cmp_total}
use Rattle.cube_model.proofs.laws.keys_are_in_total_order.Goals as goal

pub returns : goal.returns
returns c = (key_cmp_total, key_cmp-ties)
