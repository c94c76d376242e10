use Rattle.std.proofs.Common.{◌≡◌, Err, true, false, is_some, rules}
use Rattle.std.proofs.lemmas.Result.{err_from_is_err_and}
use Rattle.batch_admission.specs.Found.{cause_of}
use Rattle.cube_query.proofs.CallerLemmas.{memory_alone}
use Rattle.mode_folds.specs.States.{CanTakeByModes}
use Rattle.ssb_eval.proofs.FactsLemmas.{no_cause, over_rows, some_cause}
use Rattle.ssb_eval.proofs.facts.fold_piece.Goals as goal

pub add_rows-requires : goal.add_rows-requires
add_rows-requires c =
    let no : is_some (cause_of c.args.found.now) ≡ false = search rules in
    let can = c.requires.can (no_cause (cause_of c.args.found.now) no) in
    over_rows c.args.dims.now c.args.fold.now can.0 can.1.0

pub returns-in_err-done-clause-only : goal.returns-in_err-done-clause-only
returns-in_err-done-clause-only c =
    let p = err_from_is_err_and c.from_residual.result c.from_residual.ensures.1 in
    let no : is_some (cause_of c.args.found.now) ≡ false = search rules in
    rw (p.1, p.2)
    (memory_alone (Err c.in_err-done.field-0.0) (CanTakeByModes c.args.dims.now c.args.fold.now c.args.rows)
    (c.requires.can (no_cause (cause_of c.args.found.now) no))
    (rw c.into_vec.ensures at c.in_err-done.ensures.refused) c.in_err-done.ensures.only)

pub returns-then-is_some-clause-ok : goal.returns-then-is_some-clause-ok
returns-then-is_some-clause-ok c = λ none.
    let yes : is_some (cause_of c.args.found.now) ≡ true = search rules in
    absurd (some_cause (cause_of c.args.found.now) yes none)

pub returns-clause-ok : goal.returns-clause-ok
returns-clause-ok c = λ none. rw c.into_vec.ensures at c.in_ok-done.ensures.ok
