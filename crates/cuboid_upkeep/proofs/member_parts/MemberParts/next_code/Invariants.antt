use Rattle.std.proofs.Common.{◌-◌, ◌<◌, ◌≤◌, ℕ}
use Rattle.cuboid_upkeep.specs.MemberParts.{IsUnselected}
use Rattle.cuboid_upkeep.proofs.member_parts.MemberParts.next_code.Given as goal

abbrev pub decreases-loop-code : goal.decreases-loop-code
decreases-loop-code l = l.end - l.code

abbrev pub invariant-loop-code : goal.invariant-loop-code
invariant-loop-code l = (code : ℕ) → l.from ≤ code → code < l.code → IsUnselected l.self code
