use Rattle.std.proofs.Common.{sym, subst, arith}
use Rattle.group_numbers.proofs.KindsLemmas.{AreFirst, all_first, none_first}
use Rattle.group_numbers.proofs.kinds.first_places.Goals as goal

pub loop-place-init : goal.loop-place-init
loop-place-init c =
    subst (AreFirst c.args.count c.args.codes.now 0) (sym c.in_ok-places.ensures.items)
    (none_first c.args.count c.args.codes.now c.requires)

pub returns-then-len-count : goal.returns-then-len-count
returns-then-len-count c =
    all_first c.args.count c.args.codes.now c.requires c.loop-place.place c.loop-place.places.items
    c.loop-place.invariant
    (omega (arith, c.loop-place-test.true)) (omega (arith, c.if-len-count.true, c.len.ensures))
