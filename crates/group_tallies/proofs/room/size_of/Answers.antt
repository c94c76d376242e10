use Rattle.std.proofs.Common.{◌+◌, ◌<◌, length, slice_index_or, None, arith}
use Rattle.std.proofs.lemmas.List.{get_or_default}
use Rattle.group_numbers.specs.Rows.{no_row, row_at}
use Rattle.group_tallies.proofs.Counting.{size-next, size-take}
use Rattle.group_tallies.proofs.room.size_of.Goals as goal

pub returns-then-size-from : goal.returns-then-size-from
returns-then-size-from g c =
    let place = c.loop-place.place in
    let rows = g.F.FactRows.rows c.args.rows.now in
    let row = row_at rows place in
    let group_slots = c.args.group_slots.now in
    let group_slot = slice_index_or group_slots place None in
    let in_rows : place < length rows = omega (arith, c.loop-place-test.true, c.requires) in
    let next = size-next 0 rows group_slots place row group_slot c.requires in_rows
    (get_or_default rows place no_row row in_rows)
    (get_or_default group_slots place None group_slot c.loop-place-test.true) c.args.agg in
    omega (
      arith,
      c.if-size-from.true,
      c.loop-place.invariant.0,
      c.size_at-size.ensures.size,
      next,
      size-take c.args.agg rows group_slots (place + 1) c.requires (omega (arith, in_rows)),
    )

pub loop-place-preserved : goal.loop-place-preserved
loop-place-preserved g c =
    let place = c.loop-place.place in
    let rows = g.F.FactRows.rows c.args.rows.now in
    let row = row_at rows place in
    let group_slots = c.args.group_slots.now in
    let group_slot = slice_index_or group_slots place None in
    let in_rows : place < length rows = omega (arith, c.loop-place-test.true, c.requires) in
    let next = size-next 0 rows group_slots place row group_slot c.requires in_rows
    (get_or_default rows place no_row row in_rows)
    (get_or_default group_slots place None group_slot c.loop-place-test.true) c.args.agg in
    (omega (arith, c.loop-place.invariant.0, c.size_at-size.ensures.size, next), omega (arith, c.if-size-from.false))
