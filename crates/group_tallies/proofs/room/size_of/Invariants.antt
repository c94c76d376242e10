use Rattle.std.proofs.Common.{◌≡◌, ◌<◌, ◌^◌, take}
use Rattle.group_tallies.specs.Columns.{rows_with_slots, aggregate_size}
use Rattle.group_tallies.proofs.room.size_of.Given as goal

abbrev pub invariant-loop-place : goal.invariant-loop-place
invariant-loop-place g l =
    (l.size ≡ aggregate_size l.agg
    (rows_with_slots (take l.place (g.F.FactRows.rows l.rows)) (take l.place l.group_slots)))
    × (l.size < 2 ^ 63)
