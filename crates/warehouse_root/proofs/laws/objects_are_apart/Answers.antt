use Rattle.warehouse_root.proofs.LawsLemmas.{objects}
use Rattle.warehouse_root.proofs.laws.objects_are_apart.Goals as goal

pub returns : goal.returns
returns c = objects
