use Rattle.std.proofs.Common.{◌≡◌, ◌<◌, ◌∙◌, subst, arith, slice_index_or, take, length, None}
use Rattle.std.proofs.lemmas.Grind.{common_steps}
use Rattle.std.proofs.lemmas.List.{get_or_default}
use Rattle.group_tallies.specs.Columns.{CountsIn}
use Rattle.group_numbers.specs.Rows.{no_row, row_at}
use Rattle.group_tallies.proofs.Counting.{HasRoom-next, CountsIn-next, IsBounded-next}
use Rattle.group_tallies.proofs.columns.count_in.Goals as goal

pub count_row-requires-clause-room : goal.count_row-requires-clause-room
count_row-requires-clause-room g c =
    let place = c.loop-place.place in
    let rows = g.F.FactRows.rows c.args.rows.now in
    let row = row_at rows place in
    let group_slot = slice_index_or c.args.group_slots.now place None in
    let in_rows : place < length rows = omega (arith, c.loop-place-test.true, c.requires.group_slots) in
    HasRoom-next c.args.agg rows c.args.group_slots.now place row group_slot c.requires.group_slots in_rows
    (get_or_default rows place no_row row in_rows)
    (get_or_default c.args.group_slots.now place None group_slot c.loop-place-test.true) c.args.column.now
    c.loop-place.column c.requires.room c.loop-place.invariant.1 c.loop-place.invariant.2

pub loop-place-preserved : goal.loop-place-preserved
loop-place-preserved g c =
    let place = c.loop-place.place in
    let rows = g.F.FactRows.rows c.args.rows.now in
    let row = row_at rows place in
    let group_slot = slice_index_or c.args.group_slots.now place None in
    let in_rows : place < length rows = omega (arith, c.loop-place-test.true, c.requires.group_slots) in
    let here = get_or_default rows place no_row row in_rows in
    let slot_here = get_or_default c.args.group_slots.now place None group_slot c.loop-place-test.true in (
      CountsIn-next c.args.agg rows c.args.group_slots.now place row group_slot c.requires.group_slots in_rows here
          slot_here
          c.args.column.now c.loop-place.column c.count_row.new.column c.loop-place.invariant.0
          c.count_row.ensures.counted,
      IsBounded-next c.args.agg rows c.args.group_slots.now place row group_slot c.requires.group_slots in_rows here
          slot_here
          c.args.column.now c.loop-place.column c.count_row.new.column c.loop-place.invariant.1
          c.count_row.ensures.bounded,
      c.count_row.ensures.length ∙ c.loop-place.invariant.2,
    )

pub returns-clause-counted : goal.returns-clause-counted
returns-clause-counted g c =
    let rows = g.F.FactRows.rows c.args.rows.now in
    let all_rows : take c.loop-place.place rows ≡ rows = grind (arith, common_steps, c.requires.group_slots) in
    let all_group_slots : take c.loop-place.place c.args.group_slots.now ≡ c.args.group_slots.now =
    grind (arith, common_steps) in
    subst (λ rows. CountsIn c.args.agg rows c.args.group_slots.now c.args.column.now c.loop-place.column) all_rows
    (subst (λ group_slots. CountsIn c.args.agg (take c.loop-place.place rows) group_slots c.args.column.now
    c.loop-place.column) all_group_slots c.loop-place.invariant.0)
