use Rattle.std.proofs.Common.{◌≡◌, ◌∙◌, refl, sym, true}
use Rattle.mode_folds.proofs.Takes.{nothing_together}
use Rattle.mode_folds.proofs.Whole.{can_together, on_ok, takes_passing}
use Rattle.mode_folds.specs.States.{folds_together}
use Rattle.mode_queries.specs.References.{asked_by}
use Rattle.mode_folds.proofs.together.add_together.Goals as goal

pub returns-then-folds_together-clause-ok : goal.returns-then-folds_together-clause-ok
returns-then-folds_together-clause-ok c =
    let is : folds_together (asked_by c.args.asked.now) ≡ true =
    sym c.folds_together.ensures ∙ c.if-folds_together.true in
    on_ok c.add_rows.result
    (λ takes. takes_passing c.args.dims.now (asked_by c.args.asked.now) c.args.together.now c.add_rows.new.self
    c.args.rows.now is (takes c.args.rows.now refl)) c.add_rows.ensures.ok

pub returns-then-folds_together-clause-refused : goal.returns-then-folds_together-clause-refused
returns-then-folds_together-clause-refused c = λ is so_far all rows_are represents can.
    c.add_rows.ensures.refused is c.args.rows.now refl
    (can_together c.args.dims.now (asked_by c.args.asked.now) c.args.together.now c.args.rows.now so_far all
    (sym c.folds_together.ensures ∙ c.if-folds_together.true) rows_are represents can)

pub returns-clause-ok : goal.returns-clause-ok
returns-clause-ok c = λ all rows_are.
    nothing_together c.args.dims.now (asked_by c.args.asked.now) c.args.together.now all
    (sym c.folds_together.ensures ∙ c.if-folds_together.false)
