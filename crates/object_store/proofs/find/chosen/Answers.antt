use Rattle.object_store.proofs.Looking.{chosen_is}
use Rattle.object_store.proofs.find.chosen.Goals as goal

pub returns : goal.returns
returns c = chosen_is c.args.even.now c.args.odd.now c.decode.result c.decode-2.result c.choose.result c.decode.ensures
    c.decode-2.ensures c.choose.ensures
