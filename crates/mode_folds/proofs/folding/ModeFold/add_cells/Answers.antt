use Rattle.std.proofs.Common.{◌≡◌, ◌∙◌, sym, ap, refl, subst, List, None, true}
use Rattle.std.proofs.lemmas.Result.{err_from_is_err_and}
use Rattle.std.specs.Prelude.{is_some}
use Rattle.cube_model.specs.declared.rows.LineOrder.{LineOrder}
use Rattle.cuboid_upkeep.specs.Grouping.{RepresentRows}
use Rattle.lattice.specs.Determined.{Serves}
use Rattle.mode_folds.specs.Parts.{RepresentByMode, TakeByMode}
use Rattle.mode_folds.specs.States.{CanTakeByModes, TakesByModes, fold_of}
use Rattle.mode_folds.proofs.Finish.{represent_by_mode}
use Rattle.mode_folds.proofs.Takes.{takes_by_mode, takes_plain}
use Rattle.mode_folds.proofs.Whole.{none_or_some, on_ok, passing_after}
use Rattle.mode_queries.specs.Joining.{passing}
use Rattle.mode_queries.specs.References.{asked_by}
use Rattle.mode_folds.proofs.folding.ModeFold.add_cells.Goals as goal

pub returns-in_err-add_cells_together-clause-refused : goal.returns-in_err-add_cells_together-clause-refused
returns-in_err-add_cells_together-clause-refused c =
    let dims = c.args.dims.now in
    let asked = asked_by c.self.inside.asked in
    let passing_represent = λ (rows : List LineOrder)
    (represent : RepresentRows dims c.args.modes.now.texts rows c.args.cells.now).
    subst (λ conditions. RepresentRows dims c.args.modes.now.texts (passing conditions rows) c.in_ok-cells.cells)
    c.conditions.ensures (c.in_ok-cells.ensures.represent dims rows c.requires.grouped represent) in
    let p = err_from_is_err_and c.from_residual-in_err-add_cells_together.result
    c.from_residual-in_err-add_cells_together.ensures.1 in
    rw (p.1, p.2) (λ is rows represent given.
    let can = subst (λ s. CanTakeByModes dims s rows) (sym c.self.view_is) given in
    c.in_err-add_cells_together.ensures.refused is can.0 rows (passing_represent rows represent) can.1.0.together
    can.1.1)

pub returns-then-is_none-clause-ok : goal.returns-then-is_none-clause-ok
returns-then-is_none-clause-ok c = λ rows represent.
    let dims = c.args.dims.now in
    let asked = asked_by c.self.inside.asked in
    let passing_represent = λ (rows : List LineOrder)
    (represent : RepresentRows dims c.args.modes.now.texts rows c.args.cells.now).
    subst (λ conditions. RepresentRows dims c.args.modes.now.texts (passing conditions rows) c.in_ok-cells.cells)
    c.conditions.ensures (c.in_ok-cells.ensures.represent dims rows c.requires.grouped represent) in
    let none : asked.place ≡ None = sym c.place.ensures ∙ none_or_some c.place.result c.if-is_none.ensures in
    subst (λ s. TakesByModes dims s rows
    (fold_of asked c.add_cells_together.new.together c.self.inside.modes.texts c.self.inside.folds.items))
    c.self.view_is
    (takes_plain dims asked c.self.inside.together c.add_cells_together.new.together c.self.inside.modes.texts
    c.self.inside.folds.items rows none
    (c.in_ok-add_cells_together.ensures.ok rows (passing_represent rows represent)))

pub add_cells_by_mode-requires-clause-serves : goal.add_cells_by_mode-requires-clause-serves
add_cells_by_mode-requires-clause-serves c =
    subst (λ view. Serves view c.self.inside.query) (sym c.in_ok-cells.ensures.view)
    (subst (Serves c.args.cells.now.view) (ap (λ s. s.asked.query) (sym c.self.view_is) ∙ sym c.self.invariant.3)
    c.requires.serves)

pub returns-clause-ok : goal.returns-clause-ok
returns-clause-ok c =
    let dims = c.args.dims.now in
    let asked = asked_by c.self.inside.asked in
    let passing_represent = λ (rows : List LineOrder)
    (represent : RepresentRows dims c.args.modes.now.texts rows c.args.cells.now).
    subst (λ conditions. RepresentRows dims c.args.modes.now.texts (passing conditions rows) c.in_ok-cells.cells)
    c.conditions.ensures (c.in_ok-cells.ensures.represent dims rows c.requires.grouped represent) in
    let some : is_some asked.place ≡ true = ap is_some (sym c.place.ensures) ∙ c.if-is_none.ensures in
    on_ok c.add_cells_by_mode.result
    (λ take rows represent. subst (λ s. TakesByModes dims s rows
    (fold_of asked c.add_cells_together.new.together c.add_cells_by_mode.new.own.texts
    c.add_cells_by_mode.new.folds.items)) c.self.view_is
    (takes_by_mode dims asked c.self.inside.together c.add_cells_together.new.together c.self.inside.modes.texts
    c.add_cells_by_mode.new.own.texts c.self.inside.folds.items c.add_cells_by_mode.new.folds.items rows some
    c.self.invariant.2 (c.in_ok-add_cells_together.ensures.ok rows (passing_represent rows represent))
    (subst (λ q. TakeByMode dims q c.self.inside.modes.texts c.self.inside.folds.items (passing asked.conditions rows)
    c.add_cells_by_mode.new.own.texts c.add_cells_by_mode.new.folds.items) c.self.invariant.3
    (take (passing asked.conditions rows) (passing_represent rows represent))))) c.add_cells_by_mode.ensures.ok

pub returns-clause-refused : goal.returns-clause-refused
returns-clause-refused c = λ is rows represent given.
    let dims = c.args.dims.now in
    let asked = asked_by c.self.inside.asked in
    let passing_represent = λ (rows : List LineOrder)
    (represent : RepresentRows dims c.args.modes.now.texts rows c.args.cells.now).
    subst (λ conditions. RepresentRows dims c.args.modes.now.texts (passing conditions rows) c.in_ok-cells.cells)
    c.conditions.ensures (c.in_ok-cells.ensures.represent dims rows c.requires.grouped represent) in
    let some : is_some asked.place ≡ true = ap is_some (sym c.place.ensures) ∙ c.if-is_none.ensures in
    let can = subst (λ s. CanTakeByModes dims s rows) (sym c.self.view_is) given in
    c.add_cells_by_mode.ensures.refused is (passing asked.conditions rows) (passing asked.conditions can.0)
    (passing_represent rows represent)
    (subst (λ q. RepresentByMode dims q (passing asked.conditions can.0) c.self.inside.modes.texts
    c.self.inside.folds.items) (sym c.self.invariant.3)
    (represent_by_mode dims asked c.self.inside.together c.self.inside.modes.texts c.self.inside.folds.items can.0 some
    c.self.invariant.2 can.1.0)) (passing_after dims asked can.0 rows (passing asked.conditions rows) refl can.1.1)
