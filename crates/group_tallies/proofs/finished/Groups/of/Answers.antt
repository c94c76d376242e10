use Rattle.std.proofs.Common.{◌≡◌, sym, subst}
use Rattle.group_tallies.specs.FoldInvariant.{AreTallied, IsFold}
use Rattle.group_tallies.specs.GroupLines.{lines_by}
use Rattle.group_tallies.specs.Groups.{finest}
use Rattle.group_tallies.specs.Slots.{entries_of}
use Rattle.cube_model.specs.Answers.{answer}
use Rattle.group_numbers.specs.Numbers.{Asked}
use Rattle.group_numbers.specs.GroupNumbers.{query_of}
use Rattle.group_tallies.proofs.finished.Groups.of.Goals as goal

pub groups_of_kind-requires-clause-fold : goal.groups_of_kind-requires-clause-fold
groups_of_kind-requires-clause-fold c =
    subst (λ (asked : Asked). IsFold asked.dimensions asked.query c.args.slots c.args.columns.items)
    (sym c.over.ensures) c.requires.fold

pub returns-clause-answer : goal.returns-clause-answer
returns-clause-answer c = λ rows tallied.
    let dims = c.args.dims.now in
    let query = query_of c.args.grouping in
    let new = c.groups_of_kind.new.columns.items in
    let order = c.in_ok-order.order.items in
    let lines : lines_by dims query new order ≡ (answer query dims rows).lines =
    subst (λ (asked : Asked). AreTallied asked.dimensions (finest asked.query) (entries_of c.args.slots)
    c.args.columns.items rows
    → lines_by asked.dimensions asked.query new order ≡ (answer asked.query asked.dimensions rows).lines) c.over.ensures
    (c.in_ok-order.ensures.lines rows) tallied in
    (λ i. record { lines = lines i })
