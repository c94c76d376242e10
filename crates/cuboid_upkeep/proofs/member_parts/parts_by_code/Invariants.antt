use Rattle.std.proofs.Common.{◌≡◌, map, take}
use Rattle.cuboid_upkeep.specs.MemberParts.{given_by, member_part_by}
use Rattle.cuboid_upkeep.proofs.member_parts.parts_by_code.Given as goal

abbrev pub invariant-loop-key : goal.invariant-loop-key
invariant-loop-key l = map given_by l.parts.items ≡ map (member_part_by l.grouping.dimensions l.grouping.query l.axis)
    (take l.key-index l.keys)
