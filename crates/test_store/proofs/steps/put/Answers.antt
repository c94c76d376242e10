use Rattle.std.proofs.Common.{List, [], ◌∷◌, arith}
use Rattle.object_store.specs.Store.{content_of}
use Rattle.object_store.proofs.CallerLemmas.{one_put, few_after}
use Rattle.test_store.proofs.steps.put.Goals as goal

pub commit-requires-clause-puts : goal.commit-requires-clause-puts
commit-requires-clause-puts g c = one_put c.args.id c.args.bytes.now (omega arith) (omega arith)

pub commit-requires-clause-few : goal.commit-requires-clause-few
commit-requires-clause-few g c =
    omega (
      arith,
      few_after ((c.args.id, c.args.bytes.now) ∷ []) [] [] 1 (content_of g.D.Sectors c.args.store.now),
      c.objects.ensures,
    )
