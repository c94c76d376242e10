use Rattle.std.proofs.Common.{arith}
use Rattle.object_store.proofs.CatalogueLemmas.{one_more}
use Rattle.object_store.proofs.catalogue.reading.read_entries.Goals as goal

pub loop-preserved : goal.loop-preserved
loop-preserved c =
    let before = c.loop.invariant in
    let one = c.in_ok-entry.ensures.ok in
    let after =
    one_more c.loop.counter _ _ _ _ _ c.in_ok-entry.entry
    (record { fit = before.fit; many = before.many; spelled = before.spelled }) one c.in_ok-push.ensures.items in
    record { many = after.many; fit = after.fit; spelled = after.spelled; left = omega (arith, before.left, one.left) }
