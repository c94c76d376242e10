use Rattle.std.proofs.Common.{◌∙◌, ◌<◌, length, refl, sym, ap, arith, get_or, subst}
use Rattle.std.proofs.lemmas.Result.{err_from_is_err_and}
use Rattle.cube_query.specs.Groups.{CanTake, Takes}
use Rattle.mode_folds.proofs.Counted.{at_any, can_next, one_more, same_queries}
use Rattle.mode_folds.proofs.parts.add_parts.Goals as goal

pub returns-in_err-add_rows-clause-queries : goal.returns-in_err-add_rows-clause-queries
returns-in_err-add_rows-clause-queries c =
    let within : c.loop-i.i < length c.loop-i.folds =
    omega (arith, c.requires.counted, c.loop-i-test.true, c.loop-i.invariant.counted) in
    same_queries c.args.dims.now c.args.folds.now c.args.parts.now c.loop-i.i c.loop-i.folds c.loop-i.invariant within
    c.add_rows.new.self c.index-parts-i.result
    (λ d. ap (λ f. f.query) (c.in_err-add_rows.ensures.err ∙ sym c.index-folds-i.is
    ∙ sym (at_any c.loop-i.folds c.loop-i.i c.index-folds-i.result d within c.index-folds-i.is)))

pub returns-in_err-add_rows-clause-refused : goal.returns-in_err-add_rows-clause-refused
returns-in_err-add_rows-clause-refused c =
    let within : c.loop-i.i < length c.loop-i.folds =
    omega (arith, c.requires.counted, c.loop-i-test.true, c.loop-i.invariant.counted) in
    let p = err_from_is_err_and c.from_residual.result c.from_residual.ensures.1 in
    rw (p.1, p.2) (λ is can.
    c.in_err-add_rows.ensures.refused is c.as_slice.result.now refl
    (subst (λ rows. CanTake c.args.dims.now (get_or c.loop-i.folds c.loop-i.i c.index-folds-i.result) rows)
    (ap (λ v. v.items) (sym c.index-parts-i.is) ∙ sym c.as_slice.ensures.value)
    (can_next c.args.dims.now c.args.folds.now c.args.parts.now c.loop-i.i c.loop-i.folds c.loop-i.invariant within
    c.add_rows.new.self c.index-parts-i.result can c.loop-i-test.true c.index-folds-i.result
    c.index-parts-i.result)))

pub loop-i-preserved : goal.loop-i-preserved
loop-i-preserved c =
    let within : c.loop-i.i < length c.loop-i.folds =
    omega (arith, c.requires.counted, c.loop-i-test.true, c.loop-i.invariant.counted) in
    one_more c.args.dims.now c.args.folds.now c.args.parts.now c.loop-i.i c.loop-i.folds c.loop-i.invariant within
    c.add_rows.new.self c.index-parts-i.result
    (λ d p.
    subst (λ f. Takes c.args.dims.now f (get_or c.args.parts.now c.loop-i.i p).items c.add_rows.new.self)
    (sym c.index-folds-i.is ∙ sym (at_any c.loop-i.folds c.loop-i.i c.index-folds-i.result d within
    c.index-folds-i.is))
    (subst (λ rows. Takes c.args.dims.now (get_or c.loop-i.folds c.loop-i.i c.index-folds-i.result) rows
    c.add_rows.new.self)
    (c.as_slice.ensures.value ∙ ap (λ v. v.items) (sym (at_any c.args.parts.now c.loop-i.i c.index-parts-i.result p
    c.loop-i-test.true c.index-parts-i.is)))
    (c.in_ok-add_rows.ensures.ok c.as_slice.result.now refl)))
    c.in_ok-add_rows.ensures.over
