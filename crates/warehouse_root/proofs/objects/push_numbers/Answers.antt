use Rattle.std.proofs.Common.{arith}
use Rattle.warehouse_root.proofs.ObjectsLemmas.{range-more}
use Rattle.warehouse_root.proofs.objects.push_numbers.Goals as goal

pub loop-id-preserved : goal.loop-id-preserved
loop-id-preserved c = (
  omega (arith, c.loop-id.invariant.0),
  range-more c.args.out.now.items c.push.new.self.items c.loop-id.out.items c.args.first c.loop-id.id
      c.loop-id.invariant.0 c.in_ok-push.ensures.items c.loop-id.invariant.1,
)
