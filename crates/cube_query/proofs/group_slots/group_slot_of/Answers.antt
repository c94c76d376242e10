use Rattle.std.proofs.Common.{subst}
use Rattle.group_numbers.specs.Numbers.{group_count, IsGroupNumber}
use Rattle.group_numbers.specs.Rows.{row_at}
use Rattle.group_tallies.specs.Slots.{entries_of}
use Rattle.group_tallies.proofs.Placing.{Grow-place}
use Rattle.cube_query.proofs.group_slots.group_slot_of.Goals as goal

pub returns-in_ok-slot-in-Ok-Some-clause-cover : goal.returns-in_ok-slot-in-Ok-Some-clause-cover
returns-in_ok-slot-in-Ok-Some-clause-cover g c =
    c.place.ensures.cover (group_count c.args.grouping.now.dimensions c.args.grouping.now.query.columns)
    c.requires.cover

pub returns-in_err-slot-in-Ok-Some-clause-cover : goal.returns-in_err-slot-in-Ok-Some-clause-cover
returns-in_err-slot-in-Ok-Some-clause-cover g c =
    c.place.ensures.cover (group_count c.args.grouping.now.dimensions c.args.grouping.now.query.columns)
    c.requires.cover

pub returns-in_ok-slot-in-Ok-Some-clause-grow : goal.returns-in_ok-slot-in-Ok-Some-clause-grow
returns-in_ok-slot-in-Ok-Some-clause-grow g c = λ first grown.
    Grow-place (group_count c.args.grouping.now.dimensions c.args.grouping.now.query.columns) first
    (entries_of c.args.slots.now) c.in-Ok-Some.number c.in_ok-slot-in-Ok-Some.slot (entries_of c.place.new.self)
    (subst (IsGroupNumber c.args.grouping.now.dimensions c.args.grouping.now.query
    (row_at (g.F.FactRows.rows c.args.rows.now) c.args.place)) c.in-Ok-Some.field-0-is c.in-Ok-Some.ensures.ok).1
    c.in_ok-slot-in-Ok-Some.ensures.ok grown
