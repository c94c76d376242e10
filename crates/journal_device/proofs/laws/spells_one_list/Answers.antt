use Rattle.journal_device.proofs.LawsLemmas as proved
use Rattle.journal_device.proofs.laws.spells_one_list.Goals as goal

pub returns : goal.returns
returns c = proved.spells_one_list
