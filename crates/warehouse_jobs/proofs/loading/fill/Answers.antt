use Rattle.std.proofs.Common.{◌≡◌, ◌≤◌, ◌<◌, ◌+◌, ◌*◌, [], ◌++◌, length, arith, sym, subst}
use Rattle.std.specs.Prelude.{min}
use Rattle.std.proofs.lemmas.Result.{err_from_is_err_and}
use Rattle.batch_loader.specs.Tables.{lineorder_row}
use Rattle.batch_loader.proofs.TakingPieces.{IsTaking-piece, RefusesBatch-piece, TakesBatch-last}
use Rattle.batch_loader.proofs.TakingRows.{IsTaking, IsTaking-start, IsTaking-whole}
use Rattle.warehouse_jobs.proofs.loading.fill.Goals as goal

pub loop-piece-init : goal.loop-piece-init
loop-piece-init g c =
    let none : min c.args.size 0 ≡ 0 = omega arith in (
      [],
      subst (IsTaking lineorder_row c.args.size c.args.lines.now c.args.lines.now []) (sym none)
          (IsTaking-start lineorder_row c.args.size c.args.lines.now c.requires.fault),
      c.requires.none,
      λ w at k none. none,
    )

pub next_piece-requires : goal.next_piece-requires
next_piece-requires g c =
    let from = c.loop-piece.piece * 1024 in
    let begins : min c.args.size from ≡ from = omega (arith, c.loop-piece-test.true, c.div_ceil-piece-end.ensures) in
    let few : length c.loop-piece.invariant.0 + c.min-most.result ≤ 65536 =
    omega (arith, begins, c.min-most.ensures, c.loop-piece.invariant.1.count_is, c.requires.few) in
    record { few = (c.loop-piece.invariant.0, c.loop-piece.invariant.2, few); fault = c.loop-piece.invariant.1.fault }

pub returns-in_err-rows-clause-refused : goal.returns-in_err-rows-clause-refused
returns-in_err-rows-clause-refused g c =
    let from = c.loop-piece.piece * 1024 in
    let begins : min c.args.size from ≡ from = omega (arith, c.loop-piece-test.true, c.div_ceil-piece-end.ensures) in
    let within : from + c.min-most.result ≤ c.args.size = omega (arith, begins, c.min-most.ensures) in
    let before = subst (IsTaking lineorder_row c.args.size c.args.lines.now c.loop-piece.lines c.loop-piece.invariant.0)
    begins c.loop-piece.invariant.1 in
    let p = err_from_is_err_and c.from_residual.result c.from_residual.ensures.1 in
    rw (p.1, p.2)
    (RefusesBatch-piece lineorder_row c.args.size c.min-most.result c.args.lines.now c.loop-piece.lines
    c.loop-piece.invariant.0 from _ within c.in_err-rows.ensures.refused before)

pub returns-then-len-most-clause-ok : goal.returns-then-len-most-clause-ok
returns-then-len-most-clause-ok g c =
    let from = c.loop-piece.piece * 1024 in
    let begins : min c.args.size from ≡ from = omega (arith, c.loop-piece-test.true, c.div_ceil-piece-end.ensures) in
    let within : from + c.min-most.result ≤ c.args.size = omega (arith, begins, c.min-most.ensures) in
    let before = subst (IsTaking lineorder_row c.args.size c.args.lines.now c.loop-piece.lines c.loop-piece.invariant.0)
    begins c.loop-piece.invariant.1 in
    let short : length c.in_ok-rows.rows < c.min-most.result = omega (arith, c.if-len-most.true, c.len.ensures) in (
      c.loop-piece.invariant.0 ++ c.in_ok-rows.rows,
      TakesBatch-last lineorder_row c.args.size c.min-most.result c.args.lines.now c.loop-piece.lines
          c.next_piece.new.lines c.loop-piece.invariant.0 c.in_ok-rows.rows from within short
          c.in_ok-rows.ensures.taken before,
      c.in_ok-rows.ensures.grown c.loop-piece.invariant.0 c.loop-piece.invariant.2,
    )

pub loop-piece-preserved : goal.loop-piece-preserved
loop-piece-preserved g c =
    let from = c.loop-piece.piece * 1024 in
    let begins : min c.args.size from ≡ from = omega (arith, c.loop-piece-test.true, c.div_ceil-piece-end.ensures) in
    let within : from + c.min-most.result ≤ c.args.size = omega (arith, begins, c.min-most.ensures) in
    let ends : from + c.min-most.result ≡ min c.args.size ((c.loop-piece.piece + 1) * 1024) =
    omega (arith, begins, c.min-most.ensures) in
    let before = subst (IsTaking lineorder_row c.args.size c.args.lines.now c.loop-piece.lines c.loop-piece.invariant.0)
    begins c.loop-piece.invariant.1 in
    let whole : length c.in_ok-rows.rows ≡ c.min-most.result =
    omega (arith, c.if-len-most.false, c.len.ensures, c.in_ok-rows.ensures.taken.few) in (
      c.loop-piece.invariant.0 ++ c.in_ok-rows.rows,
      subst (IsTaking lineorder_row c.args.size c.args.lines.now c.next_piece.new.lines
          (c.loop-piece.invariant.0 ++ c.in_ok-rows.rows)) ends
          (IsTaking-piece lineorder_row c.args.size c.min-most.result c.args.lines.now c.loop-piece.lines
          c.next_piece.new.lines c.loop-piece.invariant.0 c.in_ok-rows.rows from within whole
          c.in_ok-rows.ensures.taken before),
      c.in_ok-rows.ensures.grown c.loop-piece.invariant.0 c.loop-piece.invariant.2,
      λ w at k none. c.in_ok-rows.ensures.unknown w at k (c.loop-piece.invariant.3 w at k none),
    )

pub returns-clause-ok : goal.returns-clause-ok
returns-clause-ok g c =
    let all : min c.args.size (c.loop-piece.piece * 1024) ≡ c.args.size =
    omega (arith, c.loop-piece-test.false, c.div_ceil-piece-end.ensures) in (
      c.loop-piece.invariant.0,
      IsTaking-whole lineorder_row c.args.size c.args.lines.now c.loop-piece.lines c.loop-piece.invariant.0 _ all
          c.loop-piece.invariant.1,
      c.loop-piece.invariant.2,
    )

pub returns-in_err-rows-clause-unknown : goal.returns-in_err-rows-clause-unknown
returns-in_err-rows-clause-unknown g c w at k none =
    c.in_err-rows.ensures.unknown w at k (c.loop-piece.invariant.3 w at k none)

pub returns-then-len-most-clause-unknown : goal.returns-then-len-most-clause-unknown
returns-then-len-most-clause-unknown g c w at k none =
    c.in_ok-rows.ensures.unknown w at k (c.loop-piece.invariant.3 w at k none)

pub returns-clause-unknown : goal.returns-clause-unknown
returns-clause-unknown g c w at k none = c.loop-piece.invariant.3 w at k none
