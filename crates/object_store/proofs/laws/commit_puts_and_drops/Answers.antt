use Rattle.object_store.proofs.CallerLemmas.{bytes_after}
use Rattle.object_store.proofs.laws.commit_puts_and_drops.Goals as goal

pub returns : goal.returns
returns c = bytes_after
