use Rattle.cuboid_upkeep.proofs.MemberKeysLemmas.{AreSoFar}
use Rattle.cuboid_upkeep.proofs.member_keys.put_keys.Given as goal

abbrev pub invariant-loop-place : goal.invariant-loop-place
invariant-loop-place l = AreSoFar l.dims l.fn.axis l.fn.grouped l.initial.keys l.place l.missing l.keys
