use Rattle.journal_device.proofs.LawsLemmas as proved
use Rattle.journal_device.proofs.laws.prefix_is_left.Goals as goal

pub returns : goal.returns
returns c = proved.prefix_is_left
