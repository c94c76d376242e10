use Rattle.std.proofs.Common.{◌≡◌, ◌≤◌, ◌+◌, length, rules, arith, sym, None}
use Rattle.std.proofs.lemmas.Result.{err_from_is_err_and}
use Rattle.cube_model.specs.Admission.{all_rows, moded_refusal}
use Rattle.ssb_eval.proofs.Admitting.{modes_next}
use Rattle.ssb_eval.proofs.Batches.{taken_more}
use Rattle.ssb_eval.proofs.FactsLemmas.{AreTaken-none, counted, found-after, TakesNextBatch-unread}
use Rattle.ssb_eval.proofs.FactsLemmas.{TakesNextBatch-refused, no_rows}
use Rattle.ssb_eval.proofs.facts.take_batch.Goals as goal

pub returns-in_err-found-clause-takes : goal.returns-in_err-found-clause-takes
returns-in_err-found-clause-takes g c = λ batches taken met.
    TakesNextBatch-unread c.args.dims.now c.args.fold.now.asked batches c.args.lines.now c.look_at_batch.new.lines
    c.args.admission.now c.look_at_batch.new.modes c.look_at_batch.new.fold _ _
    (c.in_err-found.ensures.looks batches taken met) (err_from_is_err_and _ c.from_residual.ensures.1)

pub returns-then-row_count-eq0-clause-takes : goal.returns-then-row_count-eq0-clause-takes
returns-then-row_count-eq0-clause-takes g c = λ batches taken met.
    let looked = c.in_ok-found.ensures.looks batches taken met in
    let none : c.in_ok-found.found.row_count ≡ 0 = search rules in
    let as_many = counted c.args.dims.now c.args.fold.now.asked (all_rows batches) looked.0 c.in_ok-found.found
    c.look_at_batch.new.fold looked.1.begun in
    let empty : length looked.0 ≡ 0 = omega (arith, none, as_many) in (
      no_rows c.args.lines.now c.look_at_batch.new.lines looked.0 empty looked.1.read,
      AreTaken-none c.args.dims.now c.args.fold.now.asked c.args.admission.now c.args.fold.now c.look_at_batch.new.fold
          batches looked.0 c.in_ok-found.found taken looked.1.begun none,
    )

pub returns-in_err-admit_next-clause-takes : goal.returns-in_err-admit_next-clause-takes
returns-in_err-admit_next-clause-takes g c = λ batches taken met.
    let looked = c.in_ok-found.ensures.looks batches taken met in
    let as_many = counted c.args.dims.now c.args.fold.now.asked (all_rows batches) looked.0 c.in_ok-found.found
    c.look_at_batch.new.fold looked.1.begun in
    let any : 1 ≤ c.in_ok-found.found.row_count = search rules in
    let some : 1 ≤ length looked.0 = omega (arith, any, as_many) in
    let after = found-after c.args.dims.now c.args.fold.now.asked c.args.admission.now batches looked.0
    c.in_ok-found.found c.look_at_batch.new.fold taken.represents looked.1.begun in
    TakesNextBatch-refused c.args.dims.now c.args.fold.now.asked batches c.args.lines.now c.look_at_batch.new.lines
    c.admit_next.new.admission c.look_at_batch.new.modes c.look_at_batch.new.fold looked.0 _ _ some looked.1.read
    (c.in_err-admit_next.ensures.cause c.args.dims.now batches looked.0 taken.represents after looked.1.modes)
    (err_from_is_err_and _ c.from_residual-in_err-admit_next.ensures.1)

pub returns-clause-takes : goal.returns-clause-takes
returns-clause-takes g c = λ batches taken met.
    let looked = c.in_ok-found.ensures.looks batches taken met in
    let as_many = counted c.args.dims.now c.args.fold.now.asked (all_rows batches) looked.0 c.in_ok-found.found
    c.look_at_batch.new.fold looked.1.begun in
    let any : 1 ≤ c.in_ok-found.found.row_count = search rules in
    let some : 1 ≤ length looked.0 = omega (arith, any, as_many) in
    let after = found-after c.args.dims.now c.args.fold.now.asked c.args.admission.now batches looked.0
    c.in_ok-found.found c.look_at_batch.new.fold taken.represents looked.1.begun in
    let passed : moded_refusal c.args.dims.now batches (length batches + 1) looked.0 ≡ None =
    sym (c.in_ok-admit_next.ensures.cause c.args.dims.now batches looked.0 taken.represents after looked.1.modes) in (
      looked.0,
      record {
        some = some;
        read = looked.1.read;
        passes = passed;
        taken = taken_more c.args.dims.now c.args.fold.now.asked c.args.admission.now c.admit_next.new.admission
            c.args.fold.now c.look_at_batch.new.fold batches looked.0 c.in_ok-found.found taken passed
            (c.in_ok-admit_next.ensures.taken c.args.dims.now batches looked.0 taken.represents after)
            looked.1.begun;
        modes = modes_next c.args.dims.now batches (length batches + 1) looked.0 passed c.in_ok-found.found
            c.args.admission.now.totals c.look_at_batch.new.modes after looked.1.modes;
      },
    )
