use Rattle.std.proofs.Common.{arith, replicate}
use Rattle.wire.specs.Spelling.{spelling}
use Rattle.wire.proofs.CallerLemmas.{length-spelling}
use Rattle.object_store.proofs.CatalogueLemmas.{three_put}
use Rattle.object_store.proofs.catalogue.encoding.spelled.Goals as goal

pub returns : goal.returns
returns c =
    let entry = c.args.entry.now in
    three_put (spelling 4 entry.id) (spelling 4 entry.first) (spelling 8 entry.bytes) (replicate 16 0) _ _ _ 4 8
    (length-spelling 4 entry.id) (omega (arith, length-spelling 4 entry.first))
    (omega (arith, length-spelling 8 entry.bytes))
    c.write_u32.ensures c.write_u32-2.ensures c.write_u64.ensures
