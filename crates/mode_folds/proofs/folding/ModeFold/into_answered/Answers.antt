use Rattle.std.proofs.Common.{◌≡◌, ◌∙◌, sym, ap, subst, None}
use Rattle.std.proofs.lemmas.Result.{err_from_is_err_and}
use Rattle.cube_model.specs.declared.fault.Fault.TheVariants.{BadLayout}
use Rattle.cube_model.specs.Answers.{answer}
use Rattle.group_tallies.specs.Limits.{AreFoldable}
use Rattle.mode_folds.specs.States.{IsFoldableByModes, RepresentsModeRows, rows_together}
use Rattle.mode_folds.proofs.Counted.{same_error}
use Rattle.mode_folds.proofs.Finish.{passing_foldable}
use Rattle.mode_folds.proofs.Whole.{together_none}
use Rattle.mode_queries.specs.Answers.{moded_answer}
use Rattle.mode_queries.specs.References.{asked_by}
use Rattle.mode_queries.proofs.CallerLemmas.{answers_without_column}
use Rattle.mode_folds.proofs.folding.ModeFold.into_answered.Goals as goal

pub returns-in_err-into_groups-in-None-clause-refused :
    goal.returns-in_err-into_groups-in-None-clause-refused
returns-in_err-into_groups-in-None-clause-refused c =
    let dims = c.args.dims.now in
    let asked = asked_by c.self.inside.asked in
    let none : asked.place ≡ None = sym c.place.ensures ∙ c.in-None.is in
    let p = err_from_is_err_and c.from_residual.result c.from_residual.ensures.1 in
    rw (p.1, p.2) (λ is given.
    let can = subst (IsFoldableByModes dims) (sym c.self.view_is) given in
    c.in_err-into_groups-in-None.ensures.refused (same_error c.in_err-into_groups-in-None.field-0.0 BadLayout is) (
      rows_together asked can.0,
      (
        can.1.0.together,
        subst (AreFoldable dims) (sym (together_none asked can.0 none)) (passing_foldable dims asked can.0 can.1.1),
      ),
    ))

pub returns-in_ok-into_groups-in-None-clause-answer :
    goal.returns-in_ok-into_groups-in-None-clause-answer
returns-in_ok-into_groups-in-None-clause-answer c = λ rows given.
    let dims = c.args.dims.now in
    let asked = asked_by c.self.inside.asked in
    let none : asked.place ≡ None = sym c.place.ensures ∙ c.in-None.is in
    let represents = subst (λ s. RepresentsModeRows dims s rows) (sym c.self.view_is) given in
    c.in_ok-into_groups-in-None.ensures.answer (rows_together asked rows) represents.together
    ∙ (λ i. answer (c.self.invariant.1 i) dims (together_none asked rows none i))
    ∙ sym (answers_without_column asked dims rows none)
    ∙ ap (λ s. moded_answer s.asked dims rows) c.self.view_is
