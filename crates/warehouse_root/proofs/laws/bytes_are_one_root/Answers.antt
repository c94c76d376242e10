use Rattle.warehouse_root.proofs.CallerLemmas.{IsRootOf-one}
use Rattle.warehouse_root.proofs.laws.bytes_are_one_root.Goals as goal

pub returns : goal.returns
returns c = IsRootOf-one
