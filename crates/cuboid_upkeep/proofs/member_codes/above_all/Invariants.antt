use Rattle.std.proofs.Common.{◌<◌, ℕ, get_or}
use Rattle.cuboid_upkeep.proofs.member_codes.above_all.Given as goal

abbrev pub invariant-loop-code : goal.invariant-loop-code
invariant-loop-code l = (0 < l.count) × (l.count < 65537) × ((k : ℕ) → k < l.code-index → get_or l.codes k 0 < l.count)
