use Rattle.std.proofs.Common.{◌∙◌, ◌∷◌, ◌++◌, [], refl}
use Rattle.std.proofs.lemmas.Result.{err_from_is_err_and}
use Rattle.cube_model.specs.Admission.{all_rows}
use Rattle.ssb_eval.proofs.Batches.{leaves_on, facts-done, folds-stopped}
use Rattle.ssb_eval.proofs.FactsLemmas.{AreTaken-own, AreTaken-of, gives-stopped, count_more}
use Rattle.ssb_eval.proofs.facts.fold_lines.Goals as goal

pub returns-in_err-more-clause-facts : goal.returns-in_err-more-clause-facts
returns-in_err-more-clause-facts g c = λ text unread.
    let batches = c.loop-modes.invariant.0 in
    let own = AreTaken-own c.args.dims.now c.args.fold.now.asked c.loop-modes.admission c.loop-modes.fold batches
    c.loop-modes.invariant.1 in
    folds-stopped c.args.fold.now.asked c.args.dims.now text c.take_batch.new.fold _ _
    (err_from_is_err_and _ c.from_residual.ensures.1)
    (gives-stopped c.args.fold.now.asked c.args.dims.now text batches c.loop-modes.lines c.take_batch.new.lines
    c.take_batch.new.admission c.take_batch.new.modes c.take_batch.new.fold c.loop-modes.fold.asked _ _
    (c.loop-modes.invariant.3 text unread) (c.in_err-more.ensures.takes batches own c.loop-modes.invariant.5)
    (_, refl, refl))

pub returns-then-not-more-clause-folded : goal.returns-then-not-more-clause-folded
returns-then-not-more-clause-folded g c =
    let batches = c.loop-modes.invariant.0 in
    let own = AreTaken-own c.args.dims.now c.args.fold.now.asked c.loop-modes.admission c.loop-modes.fold batches
    c.loop-modes.invariant.1 in
    let done = rw c.if-not-more.true at (c.in_ok-more.ensures.takes batches own c.loop-modes.invariant.5) in
    record {
      query_is = done.1.query_is ∙ c.loop-modes.invariant.1.query_is;
      rows = all_rows batches;
      folded = done.1.folded;
      foldable = done.1.foldable;
    }

pub returns-then-not-more-clause-facts : goal.returns-then-not-more-clause-facts
returns-then-not-more-clause-facts g c = λ text unread.
    let batches = c.loop-modes.invariant.0 in
    let own = AreTaken-own c.args.dims.now c.args.fold.now.asked c.loop-modes.admission c.loop-modes.fold batches
    c.loop-modes.invariant.1 in
    let done = rw c.if-not-more.true at (c.in_ok-more.ensures.takes batches own c.loop-modes.invariant.5) in (
      all_rows batches,
      facts-done c.args.dims.now text batches c.loop-modes.lines.number c.loop-modes.lines.left
          c.take_batch.new.lines.left (c.loop-modes.invariant.3 text unread) done.0.taken,
      done.1.folded,
    )

pub take_batch-requires : goal.take_batch-requires
take_batch-requires g c =
    let batches = c.loop-modes.invariant.0 in
    record {
      goes_on = (
        batches,
        AreTaken-own c.args.dims.now c.args.fold.now.asked c.loop-modes.admission c.loop-modes.fold
            batches c.loop-modes.invariant.1,
      );
      fault = c.loop-modes.invariant.2;
    }

pub loop-modes-smaller : goal.loop-modes-smaller
loop-modes-smaller g c =
    let batches = c.loop-modes.invariant.0 in
    let own = AreTaken-own c.args.dims.now c.args.fold.now.asked c.loop-modes.admission c.loop-modes.fold batches
    c.loop-modes.invariant.1 in
    let next = rw c.if-not-more.false at (c.in_ok-more.ensures.takes batches own c.loop-modes.invariant.5) in
    count_more c.args.dims.now c.args.fold.now.asked c.loop-modes.fold.asked batches c.loop-modes.lines
    c.take_batch.new.lines c.loop-modes.admission c.take_batch.new.admission c.take_batch.new.modes c.loop-modes.fold
    c.take_batch.new.fold
    next.0 c.loop-modes.invariant.1 next.1

pub loop-modes-preserved : goal.loop-modes-preserved
loop-modes-preserved g c =
    let batches = c.loop-modes.invariant.0 in
    let own = AreTaken-own c.args.dims.now c.args.fold.now.asked c.loop-modes.admission c.loop-modes.fold batches
    c.loop-modes.invariant.1 in
    let next = rw c.if-not-more.false at (c.in_ok-more.ensures.takes batches own c.loop-modes.invariant.5) in (
      batches ++ next.0 ∷ [],
      AreTaken-of c.args.dims.now c.loop-modes.fold.asked c.args.fold.now.asked c.take_batch.new.admission
          c.take_batch.new.fold (batches ++ next.0 ∷ []) c.loop-modes.invariant.1.query_is next.1.taken,
      next.1.read.fault,
      λ text unread.
          leaves_on c.args.dims.now text batches c.loop-modes.lines.number c.take_batch.new.lines.number
          c.loop-modes.lines.left c.take_batch.new.lines.left next.0 next.1.some
          (c.loop-modes.invariant.3 text unread) next.1.read.taken next.1.read.number next.1.passes,
      (λ none. c.in_ok-more.ensures.unknown (c.loop-modes.invariant.4 none)),
      next.1.modes,
    )
