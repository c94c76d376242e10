use Rattle.std.proofs.Common.{◌≡◌, ◌∙◌, sym, refl, true}
use Rattle.mode_folds.proofs.Takes.{nothing_together}
use Rattle.mode_folds.proofs.Whole.{can_together, on_ok, takes_passing}
use Rattle.mode_folds.specs.States.{folds_together}
use Rattle.mode_queries.specs.Joining.{passing}
use Rattle.mode_queries.specs.References.{asked_by}
use Rattle.mode_folds.proofs.together.add_cells_together.Goals as goal

pub returns-then-folds_together-clause-ok : goal.returns-then-folds_together-clause-ok
returns-then-folds_together-clause-ok c =
    let asked = asked_by c.args.asked.now in
    let is : folds_together asked ≡ true = sym c.folds_together.ensures ∙ c.if-folds_together.true in
    on_ok c.add_cells.result
    (λ takes all represent. takes_passing c.args.dims.now asked c.args.together.now c.add_cells.new.self
    (passing asked.conditions all) is (takes (passing asked.conditions all) represent) all refl) c.add_cells.ensures.ok

pub returns-then-folds_together-clause-refused : goal.returns-then-folds_together-clause-refused
returns-then-folds_together-clause-refused c = λ is so_far all represent before can.
    let asked = asked_by c.args.asked.now in
    c.add_cells.ensures.refused is (passing asked.conditions all) represent
    (can_together c.args.dims.now asked c.args.together.now (passing asked.conditions all) so_far all
    (sym c.folds_together.ensures ∙ c.if-folds_together.true) refl before can)

pub returns-clause-ok : goal.returns-clause-ok
returns-clause-ok c = λ all represent.
    nothing_together c.args.dims.now (asked_by c.args.asked.now) c.args.together.now all
    (sym c.folds_together.ensures ∙ c.if-folds_together.false)
