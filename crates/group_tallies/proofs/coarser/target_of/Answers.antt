use Rattle.group_numbers.specs.Numbers.{group_count}
use Rattle.group_tallies.specs.Slots.{entries_of}
use Rattle.group_tallies.proofs.Placing.{Grow-place, Places-found}
use Rattle.group_tallies.proofs.coarser.target_of.Goals as goal

pub returns-clause-cover : goal.returns-clause-cover
returns-clause-cover c =
    c.place.ensures.cover (group_count c.args.grouping.now.dimensions c.args.grouping.now.query.columns)
    c.requires.cover

pub returns-in_err-target-clause-cover : goal.returns-in_err-target-clause-cover
returns-in_err-target-clause-cover c =
    c.place.ensures.cover (group_count c.args.grouping.now.dimensions c.args.grouping.now.query.columns)
    c.requires.cover

pub returns-clause-target : goal.returns-clause-target
returns-clause-target c = (
  c.with_all.result,
  Places-found (entries_of c.args.slots.now) c.with_all.result c.in_ok-target.target
      (entries_of c.place.new.self) c.in_ok-target.ensures.ok,
  c.with_all.ensures.key,
)

pub returns-clause-grow : goal.returns-clause-grow
returns-clause-grow c = λ first grown.
    Grow-place (group_count c.args.grouping.now.dimensions c.args.grouping.now.query.columns) first
    (entries_of c.args.slots.now) c.with_all.result c.in_ok-target.target (entries_of c.place.new.self)
    c.with_all.ensures.below c.in_ok-target.ensures.ok grown
