use Rattle.warehouse_root.proofs.ModesLaws.{SpellModes-one}
use Rattle.warehouse_root.proofs.laws.bytes_are_one_list_of_modes.Goals as goal

pub returns : goal.returns
returns c = SpellModes-one
