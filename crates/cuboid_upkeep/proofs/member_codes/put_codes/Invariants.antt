use Rattle.std.proofs.Common.{◌≡◌, ◌<◌, ℕ, length, get_or}
use Rattle.cuboid_upkeep.specs.Codes.{member_code}
use Rattle.cuboid_upkeep.proofs.member_codes.put_codes.Given as goal

abbrev pub invariant-loop-place : goal.invariant-loop-place
invariant-loop-place l =
    (length l.codes ≡ length l.initial.codes)
    × ((k : ℕ) → k < l.place → get_or l.codes k 0 ≡ member_code l.dims l.fn.axis l.fn.grouped k)
