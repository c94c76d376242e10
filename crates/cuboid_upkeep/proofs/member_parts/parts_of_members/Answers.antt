use Rattle.std.proofs.Common.{◌∙◌, sym, ap, subst, Option, ℕ, List, map, All}
use Rattle.cube_model.specs.declared.rows.DimRows.{DimRows}
use Rattle.cuboid_upkeep.specs.MemberParts.{IsOfRow, member_part_by}
use Rattle.cuboid_upkeep.proofs.Represented.{every_known, keys_known, parts_after}
use Rattle.cuboid_upkeep.proofs.member_parts.parts_of_members.Goals as goal

pub parts_by_code-requires : goal.parts_by_code-requires
parts_by_code-requires c =
    subst (λ (keys : List (Option ℕ)). All (IsOfRow c.args.grouping.now.dimensions c.args.axis) keys)
    (sym c.as_slice.ensures.value)
    (subst (λ (dims : DimRows). All (IsOfRow dims c.args.axis) c.in_ok-keys.keys.members.items) (sym c.requires)
    (keys_known c.args.dims.now c.args.axis c.args.grouped c.in_ok-keys.keys c.in_ok-keys.ensures.sound
    c.in_ok-keys.ensures.few))

pub part_of-requires : goal.part_of-requires
part_of-requires c =
    subst (λ (dims : DimRows). IsOfRow dims c.args.axis c.in_ok-keys.keys.every) (sym c.requires)
    (every_known c.args.dims.now c.args.axis c.args.grouped c.in_ok-keys.keys c.in_ok-keys.ensures.sound)

pub returns-clause-parts : goal.returns-clause-parts
returns-clause-parts c =
    let dims = c.args.dims.now in
    let query = c.args.grouping.now.query in
    parts_after dims query c.args.axis c.args.grouped c.in_ok-keys.keys
    (record { every = c.part_of.result; members = c.in_ok-members.members }) c.in_ok-keys.ensures.sound
    c.in_ok-keys.ensures.whole
    (c.part_of.ensures ∙ ap (λ (d : DimRows). member_part_by d query c.args.axis c.in_ok-keys.keys.every) c.requires)
    (c.in_ok-members.ensures
    ∙ ap (map (member_part_by c.args.grouping.now.dimensions query c.args.axis)) c.as_slice.ensures.value
    ∙ ap (λ (d : DimRows). map (member_part_by d query c.args.axis) c.in_ok-keys.keys.members.items) c.requires)
