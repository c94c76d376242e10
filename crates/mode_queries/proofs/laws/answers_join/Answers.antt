use Rattle.mode_queries.proofs.Join.{answers_join}
use Rattle.mode_queries.proofs.laws.answers_join.Goals as goal

pub returns : goal.returns
returns c = answers_join
