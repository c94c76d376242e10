use Rattle.std.proofs.Common.{◌≡◌, ◌∙◌, sym, ap, subst, None, true}
use Rattle.std.proofs.lemmas.Result.{err_from_is_err_and}
use Rattle.std.specs.Prelude.{is_some}
use Rattle.cube_model.specs.declared.fault.Fault.TheVariants.{BadLayout}
use Rattle.mode_folds.specs.Parts.{RepresentByMode, TakeByMode}
use Rattle.mode_folds.specs.States.{CanTakeByModes, TakesByModes, fold_of}
use Rattle.mode_folds.proofs.Counted.{same_error}
use Rattle.mode_folds.proofs.Finish.{represent_by_mode}
use Rattle.mode_folds.proofs.Takes.{takes_by_mode, takes_plain}
use Rattle.mode_folds.proofs.Whole.{none_or_some, passing_after}
use Rattle.mode_queries.specs.Joining.{passing}
use Rattle.mode_queries.specs.References.{asked_by}
use Rattle.mode_folds.proofs.folding.ModeFold.add_rows.Goals as goal

pub returns-then-is_none-clause-ok : goal.returns-then-is_none-clause-ok
returns-then-is_none-clause-ok c =
    let asked = asked_by c.self.inside.asked in
    let rows_are : c.passing-rows.result.items ≡ passing asked.conditions c.args.rows.items =
    c.passing-rows.ensures ∙ ap (λ l. passing l c.args.rows.items) c.conditions.ensures in
    let none : asked.place ≡ None =
    sym c.place.ensures ∙ none_or_some c.place.result (c.if-is_none.ensures) in
    subst (λ s. TakesByModes c.args.dims.now s c.args.rows.items
    (fold_of asked c.add_together.new.together c.self.inside.modes.texts c.self.inside.folds.items)) c.self.view_is
    (takes_plain c.args.dims.now asked c.self.inside.together c.add_together.new.together c.self.inside.modes.texts
    c.self.inside.folds.items c.args.rows.items none
    (c.in_ok-add_together.ensures.ok c.args.rows.items (c.as_slice.ensures.value ∙ rows_are)))

pub returns-in_err-add_by_mode-clause-refused : goal.returns-in_err-add_by_mode-clause-refused
returns-in_err-add_by_mode-clause-refused c =
    let asked = asked_by c.self.inside.asked in
    let rows_are : c.passing-rows.result.items ≡ passing asked.conditions c.args.rows.items =
    c.passing-rows.ensures ∙ ap (λ l. passing l c.args.rows.items) c.conditions.ensures in
    let some : is_some asked.place ≡ true = ap is_some (sym c.place.ensures) ∙ c.if-is_none.ensures in
    let p = err_from_is_err_and c.from_residual-in_err-add_by_mode.result
    c.from_residual-in_err-add_by_mode.ensures.1 in
    rw (p.1, p.2) (λ is given.
    let can = subst (λ s. CanTakeByModes c.args.dims.now s c.args.rows.items) (sym c.self.view_is) given in
    c.in_err-add_by_mode.ensures.refused (same_error c.in_err-add_by_mode.field-0.0 BadLayout is)
    (passing asked.conditions can.0)
    (subst (λ q. RepresentByMode c.args.dims.now q (passing asked.conditions can.0) c.self.inside.modes.texts
    c.self.inside.folds.items) (sym c.self.invariant.3)
    (represent_by_mode c.args.dims.now asked c.self.inside.together c.self.inside.modes.texts
    c.self.inside.folds.items can.0 some c.self.invariant.2 can.1.0))
    (passing_after c.args.dims.now asked can.0 c.args.rows.items c.passing-rows.result.items rows_are can.1.1))

pub returns-clause-ok : goal.returns-clause-ok
returns-clause-ok c =
    let asked = asked_by c.self.inside.asked in
    let rows_are : c.passing-rows.result.items ≡ passing asked.conditions c.args.rows.items =
    c.passing-rows.ensures ∙ ap (λ l. passing l c.args.rows.items) c.conditions.ensures in
    let some : is_some asked.place ≡ true = ap is_some (sym c.place.ensures) ∙ c.if-is_none.ensures in
    subst (λ s. TakesByModes c.args.dims.now s c.args.rows.items
    (fold_of asked c.add_together.new.together c.add_by_mode.new.modes.texts c.add_by_mode.new.folds.items))
    c.self.view_is
    (takes_by_mode c.args.dims.now asked c.self.inside.together c.add_together.new.together c.self.inside.modes.texts
    c.add_by_mode.new.modes.texts c.self.inside.folds.items c.add_by_mode.new.folds.items c.args.rows.items
    some c.self.invariant.2
    (c.in_ok-add_together.ensures.ok c.args.rows.items (c.as_slice.ensures.value ∙ rows_are))
    (subst (λ q. TakeByMode c.args.dims.now q c.self.inside.modes.texts c.self.inside.folds.items
    (passing asked.conditions c.args.rows.items) c.add_by_mode.new.modes.texts c.add_by_mode.new.folds.items)
    c.self.invariant.3
    (subst (λ l. TakeByMode c.args.dims.now c.self.inside.query c.self.inside.modes.texts
    c.self.inside.folds.items l c.add_by_mode.new.modes.texts c.add_by_mode.new.folds.items) rows_are
    c.in_ok-add_by_mode.ensures.ok)))
