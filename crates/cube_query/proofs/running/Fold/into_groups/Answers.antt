use Rattle.std.proofs.Common.{◌∙◌, sym, ap, subst}
use Rattle.std.proofs.lemmas.Result.{IfOk-weaker}
use Rattle.cube_model.specs.Answers.{answer}
use Rattle.group_tallies.specs.FoldInvariant.{AreTallied}
use Rattle.cube_query.specs.Groups.{FoldState, IsFoldable, IsOver, RepresentsRows}
use Rattle.group_tallies.specs.Groups.{finest}
use Rattle.group_tallies.specs.Slots.{entries_of}
use Rattle.group_numbers.specs.GroupNumbers.{query_of}
use Rattle.cube_query.proofs.RunningLemmas.{fold_over, tallied_for}
use Rattle.cube_query.proofs.running.Fold.into_groups.Goals as goal

pub of-requires-clause-over : goal.of-requires-clause-over
of-requires-clause-over c =
    subst (λ (state : FoldState). IsOver c.args.dims.now state) (sym c.self.view_is) c.requires

pub of-requires-clause-fold : goal.of-requires-clause-fold
of-requires-clause-fold c =
    let dims = c.args.dims.now in
    let inside = c.self.inside in
    let over = subst (λ (state : FoldState). IsOver dims state) (sym c.self.view_is) c.requires in
    fold_over dims inside.grouping over inside.slots inside.columns.items c.self.invariant

pub returns-clause-answer : goal.returns-clause-answer
returns-clause-answer c =
    let dims = c.args.dims.now in
    let inside = c.self.inside in
    let over = subst (λ (state : FoldState). IsOver dims state) (sym c.self.view_is) c.requires in
    IfOk-weaker c.of.result _ _
    (λ groups is rows represents.
    let here = subst (λ (state : FoldState). RepresentsRows dims state rows) (sym c.self.view_is) represents in
    let tallied : AreTallied dims (finest (query_of inside.grouping)) (entries_of inside.slots) inside.columns.items
    rows =
    tallied_for dims inside.grouping over inside.slots inside.columns.items c.self.invariant rows here in
    is rows tallied ∙ ap (λ q. answer q dims rows) (ap (λ (state : FoldState). state.query) c.self.view_is))
    c.of.ensures.answer

pub returns-clause-refused : goal.returns-clause-refused
returns-clause-refused c = λ bad can.
    let dims = c.args.dims.now in
    let inside = c.self.inside in
    let over = subst (λ (state : FoldState). IsOver dims state) (sym c.self.view_is) c.requires in
    let given = subst (λ (state : FoldState). IsFoldable dims state) (sym c.self.view_is) can in
    let tallied : AreTallied dims (finest (query_of inside.grouping)) (entries_of inside.slots) inside.columns.items
    given.0 = tallied_for dims inside.grouping over inside.slots inside.columns.items c.self.invariant given.0
    given.1.0 in
    c.of.ensures.refused bad given.0 tallied given.1.1
