use Rattle.std.proofs.Common.{◌≡◌, ◌<◌, [], sym, arith, length, get_or}
use Rattle.std.proofs.lemmas.Option.{get_or_from_slice_get}
use Rattle.std.proofs.lemmas.Result.{err_from_is_err_and}
use Rattle.cube_model.specs.declared.fault.Fault.TheVariants.{BadLayout}
use Rattle.mode_folds.proofs.Counted.{same_error}
use Rattle.mode_folds.proofs.JoiningLemmas.{next_lines, part_foldable}
use Rattle.mode_folds.proofs.joining.join_modes.Goals as goal

pub returns-in_err-found-clause-refused : goal.returns-in_err-found-clause-refused
returns-in_err-found-clause-refused c =
    let p = err_from_is_err_and c.from_residual.result c.from_residual.ensures.1 in
    let within : c.loop-code.code < length c.args.modes.now.texts = omega (
      arith,
      c.loop-code-test.true,
      c.len-code-end.ensures.count,
    ) in
    let fold_is : get_or c.args.folds.now c.loop-code.code c.in-Some-get.fold.now ≡ c.in-Some-get.fold.now =
    sym (c.in-Some-get.ensures.lookup.1) in
    rw (p.1, p.2) (λ is query rows parts can.
    c.in_err-found.ensures.refused (same_error c.in_err-found.field-0.0 BadLayout is)
    (part_foldable c.args.dims.now query rows c.args.modes.now.texts c.args.folds.now parts c.loop-code.code within
    c.in-Some-get.fold.now fold_is can))

pub loop-code-preserved : goal.loop-code-preserved
loop-code-preserved c = λ query rows value keys same parts values holds.
    let within : c.loop-code.code < length c.args.modes.now.texts = omega (
      arith,
      c.loop-code-test.true,
      c.len-code-end.ensures.count,
    ) in
    let fold_is : get_or c.args.folds.now c.loop-code.code c.in-Some-get.fold.now ≡ c.in-Some-get.fold.now =
    sym (c.in-Some-get.ensures.lookup.1) in
    let mode_is : c.in-Some.mode.now ≡ get_or c.args.modes.now.texts c.loop-code.code [] =
    sym (get_or_from_slice_get c.args.modes.now.texts c.loop-code.code c.in-Some.mode.now []
    (sym c.in-Some.ensures.text)) in
    next_lines c.args.dims.now query rows c.args.modes.now.texts c.args.folds.now parts c.loop-code.code within
    c.in-Some-get.fold.now fold_is c.args.kind same c.args.place c.in-Some.mode.now mode_is c.in_ok-found.found
    c.in_ok-found.ensures.answer value keys c.loop-code.lines c.join.new.lines values
    (λ have before. c.in_ok-join.ensures.ok value _ have before)
    (c.loop-code.invariant query rows value keys same parts values holds)
