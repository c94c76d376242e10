use Rattle.std.proofs.Common.{◌≡◌, ◌∙◌, ◌==◌, ◌<◌, sym, refl, subst, arith, length, true, List, [], ◌∷◌, Some}
use Rattle.std.proofs.lemmas.Bool.Decides.{nat_tests}
use Rattle.cuboid_cells.specs.declared.cell.Cell.{Cell}
use Rattle.cube_query.specs.Groups.{CanTake, FoldState, Takes}
use Rattle.dictionary.specs.Dictionary.{Adds}
use Rattle.mode_folds.specs.Parts.{AreGrown}
use Rattle.mode_folds.proofs.CellPartsLemmas.{no_rows, none_taken, adds_within, one_can, one_takes}
use Rattle.mode_folds.proofs.Counted.{at_any}
use Rattle.mode_folds.proofs.Whole.{on_ok}
use Rattle.mode_folds.proofs.cell_parts.add_cells_of_mode.Goals as goal

nothing : (cells : List Cell) → (length cells == 0) ≡ true → cells ≡ []
nothing [] is = refl
nothing (cell ∷ cells) is =
    let same : length (cell ∷ cells) ≡ 0 = grind (arith, nat_tests) in
    absurd (omega (arith, same))

pub returns-then-is_empty-clause-ok : goal.returns-then-is_empty-clause-ok
returns-then-is_empty-clause-ok c = λ rows represent own.
    let empty : c.args.cells.now.cells ≡ [] =
    sym c.as_slice.ensures.cells ∙ nothing c.as_slice.result.now (sym c.is_empty.ensures ∙ c.if-is_empty.true) in
    none_taken c.args.dims.now c.args.query.now c.args.own.now.texts c.args.folds.now.items rows
    (no_rows c.args.dims.now c.args.modes.now.texts c.args.cells.now.view rows c.args.cells.now.cells empty represent)

pub returns-clause-ok : goal.returns-clause-ok
returns-clause-ok c =
    let dims = c.args.dims.now in
    let adds : Adds c.args.own.now c.args.mode.now (Some c.in-Some.place) c.add.new.self =
    subst (λ found. Adds c.args.own.now c.args.mode.now found c.add.new.self) c.in-Some.is c.in_ok-place.ensures.ok in
    let grown = c.grow.new.folds.items in
    let within : c.in-Some.place < length grown =
    omega (
      arith,
      adds_within c.args.own.now c.add.new.self c.args.mode.now c.in-Some.place adds,
      c.len.ensures.count,
      c.in_ok-grow.ensures.many,
    ) in
    let fold_is = λ (d : FoldState). at_any grown c.in-Some.place c.index_mut.result.now d within
    c.index_mut.ensures.value in
    on_ok c.add_cells.result
    (λ takes rows represent own. one_takes dims c.args.query.now c.args.own.now c.add.new.self c.args.mode.now
    c.in-Some.place c.args.folds.now.items grown adds
    (subst (λ n. AreGrown dims c.args.query.now n c.args.folds.now.items grown) c.len.ensures.count
    c.in_ok-grow.ensures.ok) rows own c.add_cells.new.self
    (λ d. subst (λ f. Takes dims f rows c.add_cells.new.self) (sym (fold_is d)) (takes rows represent)))
    c.add_cells.ensures.ok

pub returns-clause-refused : goal.returns-clause-refused
returns-clause-refused c = λ is rows so_far represent own before can.
    let dims = c.args.dims.now in
    let adds : Adds c.args.own.now c.args.mode.now (Some c.in-Some.place) c.add.new.self =
    subst (λ found. Adds c.args.own.now c.args.mode.now found c.add.new.self) c.in-Some.is c.in_ok-place.ensures.ok in
    let grown = c.grow.new.folds.items in
    let within : c.in-Some.place < length grown =
    omega (
      arith,
      adds_within c.args.own.now c.add.new.self c.args.mode.now c.in-Some.place adds,
      c.len.ensures.count,
      c.in_ok-grow.ensures.many,
    ) in
    c.add_cells.ensures.refused is rows represent
    (subst (λ f. CanTake dims f rows)
    (at_any grown c.in-Some.place c.index_mut.result.now c.index_mut.result.now within c.index_mut.ensures.value)
    (one_can dims c.args.query.now c.args.own.now c.add.new.self c.args.mode.now
    c.in-Some.place c.args.folds.now.items grown adds
    (subst (λ n. AreGrown dims c.args.query.now n c.args.folds.now.items grown) c.len.ensures.count
    c.in_ok-grow.ensures.ok) rows own so_far before can c.index_mut.result.now))
