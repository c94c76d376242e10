use Rattle.std.proofs.Common.{◌∙◌, sym}
use Rattle.group_tallies.proofs.RoomLemmas.{room_there, room_taken}
use Rattle.group_tallies.proofs.room.has_room.Goals as goal

pub returns-in-Some : goal.returns-in-Some
returns-in-Some g c =
    let rows = g.F.FactRows.rows c.args.rows.now in (
      λ true. room_there c.args.agg c.args.column.now rows c.args.group_slots.now c.requires c.in-Some.size
          c.in-Some.ensures.0 c.in-Some.ensures.1 (sym c.all_can_take.ensures ∙ true),
      λ room. c.all_can_take.ensures ∙ room_taken c.args.agg c.args.column.now rows c.args.group_slots.now c.requires
          c.in-Some.size c.in-Some.ensures.0 room,
    )
