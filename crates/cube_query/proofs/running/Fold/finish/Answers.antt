use Rattle.std.proofs.Common.{◌≡◌, ◌∙◌, Err, sym, ap, subst}
use Rattle.std.proofs.lemmas.Result.{err_from_is_err_and}
use Rattle.cube_model.specs.declared.fault.Fault.TheVariants.{BadLayout}
use Rattle.cube_model.specs.Answers.{answer}
use Rattle.group_tallies.specs.FoldInvariant.{AreTallied, IsFold}
use Rattle.cube_query.specs.Groups.{FoldState, IsFoldable, IsOver, RepresentsRows}
use Rattle.group_tallies.specs.Groups.{finest}
use Rattle.group_tallies.specs.Limits.{AreFoldable}
use Rattle.group_tallies.specs.Slots.{entries_of}
use Rattle.group_numbers.specs.Numbers.{Asked}
use Rattle.group_numbers.specs.GroupNumbers.{query_of}
use Rattle.cube_query.proofs.RunningLemmas.{fold_over, tallied_for}
use Rattle.cube_query.proofs.running.Fold.finish.Goals as goal

pub over-grouping-requires : goal.over-grouping-requires
over-grouping-requires c =
    subst (λ (state : FoldState). IsOver c.args.dims.now state) (sym c.self.view_is) c.requires

pub answer_lines-requires-clause-fold : goal.answer_lines-requires-clause-fold
answer_lines-requires-clause-fold c =
    let dims = c.args.dims.now in
    let inside = c.self.inside in
    let query = query_of inside.grouping in
    let over = subst (λ (state : FoldState). IsOver dims state) (sym c.self.view_is) c.requires in
    let fold : IsFold dims query inside.slots inside.columns.items =
    fold_over dims inside.grouping over inside.slots inside.columns.items c.self.invariant in
    subst (λ (asked : Asked). IsFold asked.dimensions asked.query inside.slots c.as_slice.result.now)
    (sym c.over-grouping.ensures)
    (subst (IsFold dims query inside.slots) (sym c.as_slice.ensures.value) fold)

pub returns-clause-answer : goal.returns-clause-answer
returns-clause-answer c = λ rows represents.
    let dims = c.args.dims.now in
    let inside = c.self.inside in
    let query = query_of inside.grouping in
    let entries = entries_of inside.slots in
    let over = subst (λ (state : FoldState). IsOver dims state) (sym c.self.view_is) c.requires in
    let here = subst (λ (state : FoldState). RepresentsRows dims state rows) (sym c.self.view_is) represents in
    let tallied : AreTallied dims (finest query) entries inside.columns.items rows =
    tallied_for dims inside.grouping over inside.slots inside.columns.items c.self.invariant rows here in
    let lines : c.in_ok-lines.lines ≡ (answer query dims rows).lines =
    subst (λ (asked : Asked). AreTallied asked.dimensions (finest asked.query) entries c.as_slice.result.now rows
    → c.in_ok-lines.lines ≡ (answer asked.query asked.dimensions rows).lines) c.over-grouping.ensures
    (c.in_ok-lines.ensures.lines rows)
    (subst (λ columns. AreTallied dims (finest query) entries columns rows) (sym c.as_slice.ensures.value) tallied) in
    (λ i. record { lines = lines i })
    ∙ ap (λ q. answer q dims rows) (ap (λ (state : FoldState). state.query) c.self.view_is)

pub returns-in_err-lines-clause-refused : goal.returns-in_err-lines-clause-refused
returns-in_err-lines-clause-refused c =
    let p = err_from_is_err_and c.from_residual.result c.from_residual.ensures.1 in
    rw (p.1, p.2) (λ bad can.
    let dims = c.args.dims.now in
    let inside = c.self.inside in
    let query = query_of inside.grouping in
    let entries = entries_of inside.slots in
    let over = subst (λ (state : FoldState). IsOver dims state) (sym c.self.view_is) c.requires in
    let given = subst (λ (state : FoldState). IsFoldable dims state) (sym c.self.view_is) can in
    let rows = given.0 in
    let tallied : AreTallied dims (finest query) entries inside.columns.items rows =
    tallied_for dims inside.grouping over inside.slots inside.columns.items c.self.invariant rows given.1.0 in
    let fault : c.in_err-lines.field-0.0 ≡ BadLayout = cc bad in
    c.in_err-lines.ensures.refused (ap (λ f. Err f) fault) rows
    (subst (λ (asked : Asked). AreTallied asked.dimensions (finest asked.query) entries c.as_slice.result.now rows)
    (sym c.over-grouping.ensures)
    (subst (λ columns. AreTallied dims (finest query) entries columns rows) (sym c.as_slice.ensures.value) tallied))
    (subst (λ (asked : Asked). AreFoldable asked.dimensions rows) (sym c.over-grouping.ensures) given.1.1))
