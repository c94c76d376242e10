use Rattle.object_store.proofs.CallerLemmas.{shows_one}
use Rattle.object_store.proofs.laws.image_shows_one_content.Goals as goal

pub returns : goal.returns
returns c = shows_one
