use Rattle.warehouse_root.proofs.CallerLemmas.{root_is_short}
use Rattle.warehouse_root.proofs.laws.roots_are_short.Goals as goal

pub returns : goal.returns
returns c = root_is_short
