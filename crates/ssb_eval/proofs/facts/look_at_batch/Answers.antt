use Rattle.std.proofs.Common.{◌≡◌, ◌+◌, ◌*◌, ◌≤◌, ◌<◌, [], ◌++◌, length, arith, subst}
use Rattle.std.proofs.lemmas.List.{length-append}
use Rattle.std.proofs.lemmas.Result.{err_from_is_err_and}
use Rattle.batch_admission.specs.Totals.{totals_of}
use Rattle.batch_loader.specs.Tables.{lineorder_row}
use Rattle.batch_loader.proofs.TakingPieces.{IsTaking-piece, RefusesBatch-piece, TakesBatch-last}
use Rattle.batch_loader.proofs.TakingRows.{IsTaking, IsTaking-start, IsTaking-whole}
use Rattle.cube_model.specs.Admission.{all_rows}
use Rattle.cube_model.specs.Limits.{most_batch_rows, most_batches}
use Rattle.ssb_eval.proofs.FactsLemmas.{IsBegun-more, IsBegun-start, LooksAtNext-refused, can_add, modes_more}
use Rattle.ssb_eval.proofs.facts.look_at_batch.Goals as goal

pub loop-init : goal.loop-init
loop-init g c = (
  [],
  IsTaking-start lineorder_row most_batch_rows c.args.lines.now c.requires.fault,
  λ batches taken.
      let few : length batches ≤ most_batches = omega (arith, c.findings-found.ensures.few, taken.represents.count) in
      IsBegun-start c.args.dims.now c.args.fold.now.asked c.args.admission.now c.args.fold.now batches
      c.findings-found.result taken few
      (c.findings-found.ensures.found c.args.dims.now) c.findings-found.ensures.clean,
  λ batches taken met early. met,
  λ none. none,
)

pub returns-in_err-rows-clause-looks : goal.returns-in_err-rows-clause-looks
returns-in_err-rows-clause-looks g c = λ batches taken met.
    let within : c.loop.counter * 4096 + 4096 ≤ most_batch_rows = omega (arith, c.loop-test.true) in
    LooksAtNext-refused c.args.dims.now c.args.fold.now.asked (all_rows batches) c.args.lines.now
    c.read_batch_into.new.lines c.loop.modes c.loop.fold _ _
    (RefusesBatch-piece lineorder_row most_batch_rows 4096 c.args.lines.now c.loop.lines c.loop.invariant.0
    (c.loop.counter * 4096) _ within
    (c.in_err-rows.ensures.refused c.loop.invariant.1.fault) c.loop.invariant.1)
    (err_from_is_err_and _ c.from_residual.ensures.1)

pub fold_piece-requires : goal.fold_piece-requires
fold_piece-requires g c =
    let batches = c.requires.goes_on.0 in
    let earlier = c.loop.invariant.0 in
    let begun = c.loop.invariant.2 batches c.requires.goes_on.1 in
    let few : length (earlier ++ c.in_ok-rows.rows) ≤ most_batch_rows =
    omega (
      arith,
      length-append earlier c.in_ok-rows.rows,
      c.loop.invariant.1.count_is,
      c.in_ok-rows.ensures.taken.few,
      c.loop-test.true,
    ) in
    record {
      can = can_add c.args.dims.now c.args.fold.now.asked (all_rows batches) earlier c.in_ok-rows.rows c.loop.found
          c.more-found.result c.loop.fold begun
          (rw c.as_slice.ensures at (c.more-found.ensures (totals_of (all_rows batches)) earlier begun.found_is)) few;
    }

pub returns-then-count-lt-PIECE_ROWS-clause-looks : goal.returns-then-count-lt-PIECE_ROWS-clause-looks
returns-then-count-lt-PIECE_ROWS-clause-looks g c = λ batches taken met.
    let within : c.loop.counter * 4096 + 4096 ≤ most_batch_rows = omega (arith, c.loop-test.true) in
    let earlier = c.loop.invariant.0 in
    let rows = c.in_ok-rows.rows in
    let before = c.loop.invariant.2 batches taken in
    let begun = IsBegun-more c.args.dims.now c.args.fold.now.asked (all_rows batches) earlier rows
    c.loop.found c.more-found.result c.loop.fold before
    (rw c.as_slice.ensures at (c.more-found.ensures (totals_of (all_rows batches)) earlier before.found_is))
    c.fold_piece.new.fold c.in_ok-rows-2.ensures.ok c.in_ok-rows-2.ensures.query in
    let short : length rows < 4096 = omega (arith, c.if-count-lt-PIECE_ROWS.true, c.len-count.ensures) in (
      earlier ++ rows,
      record {
        read = TakesBatch-last lineorder_row most_batch_rows 4096 c.args.lines.now c.loop.lines
            c.read_batch_into.new.lines earlier rows (c.loop.counter * 4096) within short
            c.in_ok-rows.ensures.taken c.loop.invariant.1;
        begun = begun;
        modes = modes_more c.args.dims.now c.args.fold.now.asked (all_rows batches) earlier rows
            c.loop.found c.more-found.result c.loop.fold c.fold_piece.new.fold c.loop.modes c.look_at_modes.new.modes
            c.row_count-before.result before begun c.row_count-before.ensures.count
            (c.loop.invariant.3 batches taken met)
            (rw c.as_slice-in-loop.ensures at c.in_ok-look_at_modes.ensures.ok);
      },
    )

pub loop-preserved : goal.loop-preserved
loop-preserved g c =
    let within : c.loop.counter * 4096 + 4096 ≤ most_batch_rows = omega (arith, c.loop-test.true) in
    let earlier = c.loop.invariant.0 in
    let rows = c.in_ok-rows.rows in
    let whole : length rows ≡ 4096 =
    omega (arith, c.if-count-lt-PIECE_ROWS.false, c.len-count.ensures, c.in_ok-rows.ensures.taken.few) in
    let same : c.loop.counter * 4096 + 4096 ≡ (c.loop.counter + 1) * 4096 = omega arith in (
      earlier ++ rows,
      subst (λ count. IsTaking lineorder_row most_batch_rows c.args.lines.now c.read_batch_into.new.lines
          (earlier ++ rows) count) same
          (IsTaking-piece lineorder_row most_batch_rows 4096 c.args.lines.now c.loop.lines c.read_batch_into.new.lines
          earlier rows (c.loop.counter * 4096) within whole
          c.in_ok-rows.ensures.taken c.loop.invariant.1),
      λ batches taken.
          let before = c.loop.invariant.2 batches taken in
          IsBegun-more c.args.dims.now c.args.fold.now.asked (all_rows batches) earlier rows
          c.loop.found c.more-found.result c.loop.fold before
          (rw c.as_slice.ensures at (c.more-found.ensures (totals_of (all_rows batches)) earlier before.found_is))
          c.fold_piece.new.fold c.in_ok-rows-2.ensures.ok c.in_ok-rows-2.ensures.query,
      λ batches taken met.
          let before = c.loop.invariant.2 batches taken in
          let begun = IsBegun-more c.args.dims.now c.args.fold.now.asked (all_rows batches) earlier rows
          c.loop.found c.more-found.result c.loop.fold before
          (rw c.as_slice.ensures at (c.more-found.ensures (totals_of (all_rows batches)) earlier before.found_is))
          c.fold_piece.new.fold c.in_ok-rows-2.ensures.ok c.in_ok-rows-2.ensures.query in
          modes_more c.args.dims.now c.args.fold.now.asked (all_rows batches) earlier rows
          c.loop.found c.more-found.result c.loop.fold c.fold_piece.new.fold c.loop.modes c.look_at_modes.new.modes
          c.row_count-before.result before begun c.row_count-before.ensures.count
          (c.loop.invariant.3 batches taken met)
          (rw c.as_slice-in-loop.ensures at c.in_ok-look_at_modes.ensures.ok),
      λ none. c.keep_unknown.ensures (c.loop.invariant.4 none),
    )

pub returns-clause-looks : goal.returns-clause-looks
returns-clause-looks g c = λ batches taken met.
    let all : c.loop.counter * 4096 ≡ most_batch_rows = omega (arith, c.loop-test.false, c.loop.auto.counter-end) in (
      c.loop.invariant.0,
      record {
        read = IsTaking-whole lineorder_row most_batch_rows c.args.lines.now c.loop.lines c.loop.invariant.0
            (c.loop.counter * 4096) all c.loop.invariant.1;
        begun = c.loop.invariant.2 batches taken;
        modes = c.loop.invariant.3 batches taken met;
      },
    )
