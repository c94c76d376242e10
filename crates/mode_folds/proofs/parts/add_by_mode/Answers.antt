use Rattle.std.proofs.Common.{◌≡◌, ◌∙◌, sym, ap, subst, arith, length}
use Rattle.mode_folds.specs.Parts.{AreGrown, CanTakeEach, HaveQuery, TakeByMode, TakeEach}
use Rattle.mode_folds.proofs.Counted.{written}
use Rattle.mode_folds.proofs.Takes.{can_each, divided_take}
use Rattle.mode_folds.proofs.Whole.{on_ok}
use Rattle.mode_folds.proofs.parts.add_by_mode.Goals as goal

pub returns-clause-ok : goal.returns-clause-ok
returns-clause-ok c =
    let count : c.grow.new.folds.len ≡ length c.grow.new.folds.items =
    omega (arith, c.as_mut_slice.ensures.len, ap length c.as_mut_slice.ensures.value) in
    let same : length c.add_parts.new.folds ≡ length c.grow.new.folds.items =
    c.add_parts.ensures.same ∙ ap length c.as_mut_slice.ensures.value in
    on_ok c.add_parts.result
    (λ take. subst (λ taken. TakeByMode c.args.dims.now c.args.query.now c.args.modes.now.texts c.args.folds.now.items
    c.args.rows.items c.divided.new.modes.texts taken)
    (sym (written c.grow.new.folds.items c.add_parts.new.folds c.grow.new.folds.len count same))
    (divided_take c.args.dims.now c.args.query.now c.args.modes.now.texts c.divided.new.modes.texts
    c.args.folds.now.items c.grow.new.folds.items c.args.rows.items c.in_ok-parts.parts.items c.args.rows
    c.in_ok-parts.ensures.ok
    (subst (λ n. AreGrown c.args.dims.now c.args.query.now n c.args.folds.now.items c.grow.new.folds.items)
    (omega (arith, c.len.ensures)) c.in_ok-grow.ensures.ok) c.add_parts.new.folds
    (subst (λ folds. TakeEach c.args.dims.now folds c.in_ok-parts.parts.items c.add_parts.new.folds)
    c.as_mut_slice.ensures.value
    (subst (λ parts. TakeEach c.args.dims.now c.as_mut_slice.result.now parts c.add_parts.new.folds)
    c.as_slice.ensures.value take)))) c.add_parts.ensures.ok

pub returns-clause-queries : goal.returns-clause-queries
returns-clause-queries c =
    let count : c.grow.new.folds.len ≡ length c.grow.new.folds.items =
    omega (arith, c.as_mut_slice.ensures.len, ap length c.as_mut_slice.ensures.value) in
    let same : length c.add_parts.new.folds ≡ length c.grow.new.folds.items =
    c.add_parts.ensures.same ∙ ap length c.as_mut_slice.ensures.value in
    subst (HaveQuery c.args.query.now)
    (sym (written c.grow.new.folds.items c.add_parts.new.folds c.grow.new.folds.len count same))
    (c.add_parts.ensures.queries c.args.query.now
    (subst (HaveQuery c.args.query.now) (sym c.as_mut_slice.ensures.value) c.in_ok-grow.ensures.queries))

pub returns-clause-refused : goal.returns-clause-refused
returns-clause-refused c = λ is so_far before can.
    c.add_parts.ensures.refused is
    (subst (λ folds. CanTakeEach c.args.dims.now folds c.as_slice.result.now) (sym c.as_mut_slice.ensures.value)
    (subst (CanTakeEach c.args.dims.now c.grow.new.folds.items) (sym c.as_slice.ensures.value)
    (can_each c.args.dims.now c.args.query.now c.args.modes.now.texts c.divided.new.modes.texts c.args.folds.now.items
    c.grow.new.folds.items c.args.rows.items c.in_ok-parts.parts.items c.args.rows c.in_ok-parts.ensures.ok
    (subst (λ n. AreGrown c.args.dims.now c.args.query.now n c.args.folds.now.items c.grow.new.folds.items)
    (omega (arith, c.len.ensures)) c.in_ok-grow.ensures.ok) so_far before can)))
