use Rattle.std.proofs.Common.{subst}
use Rattle.group_numbers.specs.Numbers.{group_count}
use Rattle.cuboid_upkeep.specs.CellNumbers.{IsCellNumber}
use Rattle.group_tallies.specs.Slots.{entries_of}
use Rattle.group_tallies.proofs.Placing.{Grow-place}
use Rattle.cube_query.proofs.cell_slots.cell_slot_of.Goals as goal

pub returns-in_ok-slot-in-Ok-Some-clause-cover : goal.returns-in_ok-slot-in-Ok-Some-clause-cover
returns-in_ok-slot-in-Ok-Some-clause-cover c =
    c.place.ensures.cover (group_count c.args.numbers.now.dimensions c.args.numbers.now.query.columns) c.requires.cover

pub returns-in_err-slot-in-Ok-Some-clause-cover : goal.returns-in_err-slot-in-Ok-Some-clause-cover
returns-in_err-slot-in-Ok-Some-clause-cover c =
    c.place.ensures.cover (group_count c.args.numbers.now.dimensions c.args.numbers.now.query.columns) c.requires.cover

pub returns-in_ok-slot-in-Ok-Some-clause-grow : goal.returns-in_ok-slot-in-Ok-Some-clause-grow
returns-in_ok-slot-in-Ok-Some-clause-grow c = λ first grown.
    Grow-place (group_count c.args.numbers.now.dimensions c.args.numbers.now.query.columns) first
    (entries_of c.args.slots.now) c.in-Ok-Some.number c.in_ok-slot-in-Ok-Some.slot (entries_of c.place.new.self)
    (subst (IsCellNumber c.args.numbers.now c.args.cell.now) c.in-Ok-Some.field-0-is
    c.in-Ok-Some.ensures.ok).number_is.1 c.in_ok-slot-in-Ok-Some.ensures.ok grown
