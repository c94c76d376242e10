use Rattle.lattice.proofs.LawsLemmas.{indexes_name_views}
use Rattle.lattice.proofs.laws.indexes_name_views.Goals as goal

pub returns : goal.returns
returns c = indexes_name_views
