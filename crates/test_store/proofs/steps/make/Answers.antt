use Rattle.std.proofs.Common.{List, [], ◌∷◌, arith}
use Rattle.object_store.proofs.CallerLemmas.{one_put, few_created}
use Rattle.test_store.proofs.steps.make.Goals as goal

pub create-requires-clause-puts : goal.create-requires-clause-puts
create-requires-clause-puts g c = one_put c.args.id c.args.bytes.now (omega arith) (omega arith)

pub create-requires-clause-few : goal.create-requires-clause-few
create-requires-clause-few g c = omega (arith, few_created ((c.args.id, c.args.bytes.now) ∷ []) [] 1)
