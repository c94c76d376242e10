use Rattle.std.proofs.Common.{arith, refl}
use Rattle.lattice.proofs.Places.{one_view}
use Rattle.stored_cuboids.proofs.reading.go_on.Goals as goal

pub returns-clause-some : goal.returns-clause-some
returns-clause-some c = record {
  same = one_view c.args.head.view c.args.view (omega arith);
  from = omega arith;
  to = refl;
  left = omega arith;
}
