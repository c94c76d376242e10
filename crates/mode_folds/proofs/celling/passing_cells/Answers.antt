use Rattle.std.proofs.Common.{◌≡◌, ◌∙◌, sym, ap, subst, get_or, false}
use Rattle.std.specs.List.{filter}
use Rattle.cuboid_cells.specs.Cells.{AreProperCells}
use Rattle.cuboid_cells.specs.Steps.{cells_of}
use Rattle.cuboid_upkeep.specs.Grouping.{RepresentRows}
use Rattle.mode_folds.specs.Celling.{passes_at}
use Rattle.mode_folds.proofs.Chosen.{kept, kept_proper, passing_represent}
use Rattle.mode_queries.specs.Joining.{passing}
use Rattle.mode_folds.proofs.celling.passing_cells.Goals as goal

pub of-requires : goal.of-requires
of-requires c =
    let texts = c.args.modes.now.texts in
    let cells = c.args.cells.now in
    let own_are : c.in_ok-own.own.items ≡ kept (passes_at c.args.conditions.now texts) cells.cells =
    c.in_ok-own.ensures
    ∙ (λ i. filter (λ cell. get_or ((c.as_slice.ensures.value ∙ c.in_ok-choice.ensures) i) cell.key.ship_mode false)
    (c.as_slice-2.ensures.cells i)) in
    subst (λ list. AreProperCells (cells_of c.view.result list)) (sym own_are)
    (subst (λ view. AreProperCells (cells_of view (kept (passes_at c.args.conditions.now texts) cells.cells)))
    (sym c.view.ensures.value)
    (kept_proper cells.view (passes_at c.args.conditions.now texts) cells.cells c.view.ensures.proper))

pub returns-clause-view : goal.returns-clause-view
returns-clause-view c = ap (λ own. own.view) c.of.ensures ∙ c.view.ensures.value

pub returns-clause-represent : goal.returns-clause-represent
returns-clause-represent c = λ dimensions rows grouped represent.
    let texts = c.args.modes.now.texts in
    let cells = c.args.cells.now in
    let own_are : c.in_ok-own.own.items ≡ kept (passes_at c.args.conditions.now texts) cells.cells =
    c.in_ok-own.ensures
    ∙ (λ i. filter (λ cell. get_or ((c.as_slice.ensures.value ∙ c.in_ok-choice.ensures) i) cell.key.ship_mode false)
    (c.as_slice-2.ensures.cells i)) in
    subst (RepresentRows dimensions texts (passing c.args.conditions.now rows))
    (sym (c.of.ensures ∙ (λ i. cells_of (c.view.ensures.value i) (own_are i))))
    (passing_represent dimensions c.args.conditions.now texts cells rows grouped c.view.ensures.proper represent)
