use Rattle.std.proofs.Common.{refl, arith}
use Rattle.cuboid_upkeep.proofs.MemberKeysLemmas.{first_known}
use Rattle.cuboid_upkeep.proofs.member_keys.first_key.Goals as goal

pub returns-in-len1-up-clause-some : goal.returns-in-len1-up-clause-some
returns-in-len1-up-clause-some c =
    first_known c.args.dims.now c.args.axis c.keys.result.now c.keys.ensures.keys c.keys.result.now refl
    (omega (arith, c.in-len1-up.len_at_least))
