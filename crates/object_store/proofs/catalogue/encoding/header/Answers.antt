use Rattle.std.proofs.Common.{codes, refl, arith, replicate}
use Rattle.wire.specs.Spelling.{spelling}
use Rattle.wire.proofs.CallerLemmas.{length-spelling}
use Rattle.object_store.proofs.CatalogueLemmas.{three_put}
use Rattle.object_store.proofs.catalogue.encoding.header.Goals as goal

pub returns : goal.returns
returns c =
    three_put (codes "CAT1") (spelling 4 c.args.entries) (spelling 4 c.args.root) (replicate 12 0) _ _ _ 4 8
    refl (omega (arith, length-spelling 4 c.args.entries)) (omega (arith, length-spelling 4 c.args.root))
    c.write_bytes.ensures c.write_u32.ensures c.write_u32-2.ensures
