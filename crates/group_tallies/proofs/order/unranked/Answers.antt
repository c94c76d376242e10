use Rattle.std.proofs.Common.{rules}
use Rattle.std.proofs.lemmas.Iterator.{YieldsList-from_map, YieldsList-from_slice, items_from_collect}
use Rattle.std.proofs.lemmas.Iterator.Consumers.{YieldsList-at}
use Rattle.group_tallies.proofs.order.unranked.Goals as goal

pub returns : goal.returns
returns c =
    items_from_collect _ c.collect.ensures.ran
    (YieldsList-from_map {s = c.map.result} _ (λ rank. rank.2)
    (YieldsList-at c.map.ensures.source (YieldsList-from_slice c.args.ranked.now c.iter.ensures.rest))
    c.map.ensures.closure (λ rank r q called. search rules))
