use Rattle.std.proofs.Common.{sym, subst}
use Rattle.group_tallies.specs.Numbered.{entries_in}
use Rattle.group_tallies.specs.Slots.{AreSlots}
use Rattle.group_tallies.proofs.Placing.{AreSlots-none, AreSlots-same}
use Rattle.group_tallies.proofs.slots.Slots.new.Goals as goal

pub returns-then-bound-le-MOST_FROM_THE_START-clause-numbers :
    goal.returns-then-bound-le-MOST_FROM_THE_START-clause-numbers
returns-then-bound-le-MOST_FROM_THE_START-clause-numbers c = AreSlots-same c.args.bound

pub returns-then-bound-le-MOST_IN_A_TABLE-clause-numbers : goal.returns-then-bound-le-MOST_IN_A_TABLE-clause-numbers
returns-then-bound-le-MOST_IN_A_TABLE-clause-numbers c =
    subst (λ table. AreSlots c.args.bound (entries_in table.numbers)) (sym c.in_ok-table.ensures)
    (AreSlots-none c.args.bound)

pub returns-clause-numbers : goal.returns-clause-numbers
returns-clause-numbers c = subst (λ numbers. AreSlots c.args.bound (entries_in numbers)) (sym c.new-2.ensures)
    (AreSlots-none c.args.bound)
