use Rattle.std.proofs.Common.{◌≡◌, ◌↔◌, List, IfNone, IfSome, subst}
use Rattle.std.specs.List.{AllByRecursion}
use Rattle.cube_model.specs.declared.attr.Attr.{Attr}
use Rattle.cube_model.specs.declared.query.Cond.{Cond}
use Rattle.lattice.specs.declared.view.View.{View}
use Rattle.lattice.specs.Determined.{Determines, Decides}
use Rattle.lattice.specs.Views.{Answers}
use Rattle.lattice.proofs.Needing.{coarsest, needed_none, needed_some}
use Rattle.lattice.proofs.view.View.needed_by.Goals as goal

pub returns-clause-needed : goal.returns-clause-needed
returns-clause-needed c =
    let view = c.with_columns-view.result in
    let by_columns =
    subst (λ (columns : List Attr). (other : View) → Answers other view
    ↔ (Answers other coarsest × AllByRecursion (Determines other) columns)) c.as_slice.ensures
    c.with_columns-view.ensures in
    needed_some c.args.query.now view by_columns c.with_conditions.result
    (subst (λ (conditions : List Cond). IfSome c.with_conditions.result (λ one. (other : View) → Answers other one
    ↔ (Answers other view × AllByRecursion (Decides other) conditions))) c.as_slice-2.ensures
    c.with_conditions.ensures.some)

pub returns-clause-none : goal.returns-clause-none
returns-clause-none c =
    let view = c.with_columns-view.result in
    let by_columns =
    subst (λ (columns : List Attr). (other : View) → Answers other view
    ↔ (Answers other coarsest × AllByRecursion (Determines other) columns)) c.as_slice.ensures
    c.with_columns-view.ensures in
    needed_none c.args.query.now view by_columns c.with_conditions.result
    (subst (λ (conditions : List Cond). IfNone c.with_conditions.result
    ((other : View) → AllByRecursion (Decides other) conditions → ⊥)) c.as_slice-2.ensures
    c.with_conditions.ensures.none)
