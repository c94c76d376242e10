use Rattle.std.proofs.Common.{◌≡◌, ◌∙◌, Err, ap, refl, []}
use Rattle.cube_model.specs.declared.fault.Fault.TheVariants.{BadLayout}
use Rattle.std.proofs.lemmas.Result.{IfErr-weaker, IfOk-weaker, err_from_is_err_and}
use Rattle.cube_model.specs.Answers.{answer}
use Rattle.group_tallies.proofs.Refusals.{never_improper}
use Rattle.cube_query.proofs.answer.fold.Goals as goal

pub add_rows-requires : goal.add_rows-requires
add_rows-requires c = c.in_ok-state.ensures.represents.over

pub returns-clause-answer : goal.returns-clause-answer
returns-clause-answer c =
    let begun = c.in_ok-state.ensures in
    let rows = c.args.rows.now in
    let takes = c.in_ok-add_rows.ensures.ok rows refl in
    let query : c.add_rows.new.self.query ≡ c.args.query.now = takes.query ∙ begun.query_is
    ∙ c.in_ok-query.ensures.ok in
    IfOk-weaker c.finish.result _ _ (λ found all. all rows (takes.represents [] begun.represents)
    ∙ ap (λ q. answer q c.args.dims.now rows) query) c.finish.ensures.answer

pub returns-clause-refused : goal.returns-clause-refused
returns-clause-refused c = λ bad proper. never_improper c.finish.result c.finish.ensures.only bad

pub returns-clause-unfolded : goal.returns-clause-unfolded
returns-clause-unfolded c = λ bad foldable.
    c.finish.ensures.refused bad (
      c.args.rows.now,
      ((c.in_ok-add_rows.ensures.ok c.args.rows.now refl).represents [] c.in_ok-state.ensures.represents, foldable),
    )

pub returns-clause-only : goal.returns-clause-only
returns-clause-only c = IfErr-weaker c.finish.result _ _ (λ fault either other. either) c.finish.ensures.only

pub returns-in_err-add_rows-clause-unfolded : goal.returns-in_err-add_rows-clause-unfolded
returns-in_err-add_rows-clause-unfolded c =
    let p = err_from_is_err_and c.from_residual-in_err-add_rows.result c.from_residual-in_err-add_rows.ensures.1 in
    rw (p.1, p.2) (λ bad foldable.
    let fault : c.in_err-add_rows.field-0.0 ≡ BadLayout = cc bad in
    c.in_err-add_rows.ensures.refused (ap (λ f. Err f) fault) c.args.rows.now refl
    ([], (c.in_ok-state.ensures.represents, foldable)))
