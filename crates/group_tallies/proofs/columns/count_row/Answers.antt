use Rattle.std.proofs.Common.{◌≡◌, ◌∙◌, ap, rules, w64, FitsSigned, to_z, of_z, to_z-of_z}
use Rattle.group_numbers.specs.Rows.{row_at}
use Rattle.group_tallies.specs.Columns.{tally_after}
use Rattle.group_tallies.specs.Tallies.{aggregated}
use Rattle.group_tallies.proofs.Counting.{slot_in, number_room, count_room, sum_room, counted_here, bounded_here}
use Rattle.group_tallies.proofs.columns.count_row.Goals as goal

pub bounds-column-slot : goal.bounds-column-slot
bounds-column-slot g c =
    let row = row_at (g.F.FactRows.rows c.args.rows.now) c.args.place in
    slot_in c.args.agg c.args.column.now row c.args.group_slot c.requires.room c.in-Some.slot c.in-Some.is

pub bounds-column-slot-in-Some : goal.bounds-column-slot-in-Some
bounds-column-slot-in-Some g c =
    let row = row_at (g.F.FactRows.rows c.args.rows.now) c.args.place in
    slot_in c.args.agg c.args.column.now row c.args.group_slot c.requires.room c.in-Some.slot c.in-Some.is

pub after-requires-clause-count : goal.after-requires-clause-count
after-requires-clause-count g c =
    let row = row_at (g.F.FactRows.rows c.args.rows.now) c.args.place in
    count_room c.args.agg c.args.column.now row c.args.group_slot c.requires.room c.in-Some.slot c.in-Some.is
    c.index-column-slot.result c.index-column-slot.is

pub small_number_at-requires-clause-small : goal.small_number_at-requires-clause-small
small_number_at-requires-clause-small g c =
    let row = row_at (g.F.FactRows.rows c.args.rows.now) c.args.place in
    number_room c.args.agg c.args.column.now row c.args.group_slot c.requires.room c.in-Some.slot c.in-Some.is

pub after-requires-clause-sum : goal.after-requires-clause-sum
after-requires-clause-sum g c =
    let row = row_at (g.F.FactRows.rows c.args.rows.now) c.args.place in
    let fits : FitsSigned w64 c.small_number_at.result = search rules in
    let exact : to_z w64 (of_z w64 c.small_number_at.result) ≡ aggregated c.args.agg row = to_z-of_z fits
    ∙ c.small_number_at.ensures in
    rw exact (sum_room c.args.agg c.args.column.now row c.args.group_slot c.requires.room c.in-Some.slot c.in-Some.is
    c.index-column-slot.result c.index-column-slot.is)

pub returns-in-Some-clause-counted : goal.returns-in-Some-clause-counted
returns-in-Some-clause-counted g c =
    let row = row_at (g.F.FactRows.rows c.args.rows.now) c.args.place in
    let fits : FitsSigned w64 c.small_number_at.result = search rules in
    let exact : to_z w64 (of_z w64 c.small_number_at.result) ≡ aggregated c.args.agg row = to_z-of_z fits
    ∙ c.small_number_at.ensures in
    let is : c.after.result ≡ tally_after c.index-column-slot.result (aggregated c.args.agg row) = c.after.ensures
    ∙ ap (tally_after c.index-column-slot.result) exact in
    rw is (counted_here c.args.agg c.args.column.now row c.args.group_slot c.requires.room c.in-Some.slot c.in-Some.is
    c.index-column-slot.result c.index-column-slot.is)

pub returns-in-Some-clause-bounded : goal.returns-in-Some-clause-bounded
returns-in-Some-clause-bounded g c =
    let row = row_at (g.F.FactRows.rows c.args.rows.now) c.args.place in
    let fits : FitsSigned w64 c.small_number_at.result = search rules in
    let exact : to_z w64 (of_z w64 c.small_number_at.result) ≡ aggregated c.args.agg row = to_z-of_z fits
    ∙ c.small_number_at.ensures in
    let is : c.after.result ≡ tally_after c.index-column-slot.result (aggregated c.args.agg row) = c.after.ensures
    ∙ ap (tally_after c.index-column-slot.result) exact in
    rw is (bounded_here c.args.agg c.args.column.now row c.args.group_slot c.requires.room c.in-Some.slot c.in-Some.is
    c.index-column-slot.result c.index-column-slot.is)
