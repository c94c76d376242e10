use Rattle.std.proofs.Common.{◌≡◌, ◌≤◌, ◌∙◌, ◌++◌, ◌+◌, ◌*◌, length, take, subst, ap, arith}
use Rattle.std.specs.Prelude.{min}
use Rattle.std.proofs.lemmas.List.{take_all}
use Rattle.column_segment.specs.Encoding.{HaveRows}
use Rattle.column_segment.proofs.Gathered.{piece_after}
use Rattle.column_segment.proofs.encoding.BatchColumns.push.Goals as goal

pub loop-piece-preserved : goal.loop-piece-preserved
loop-piece-preserved c = λ before have.
    let rows = c.args.rows.now in
    let from = c.loop-piece.piece * 256 in
    let begins : min (length rows) from ≡ from = omega (arith, c.loop-piece-test.true, c.div_ceil-piece-end.ensures) in
    let ends : c.min-to.result ≡ min (length rows) ((c.loop-piece.piece + 1) * 256) = omega (arith, c.min-to.ensures) in
    let order : from ≤ c.min-to.result = omega (arith, begins, c.min-to.ensures) in
    subst (λ n. HaveRows (before ++ take n rows) c.push_piece.new.self) ends
    (subst (λ l. HaveRows l c.push_piece.new.self) (piece_after before rows from c.min-to.result order)
    (c.in_ok-push_piece.ensures.ok (before ++ take from rows)
    (subst (λ n. HaveRows (before ++ take n rows) c.loop-piece.self) begins (c.loop-piece.invariant before have))))

pub returns-clause-ok : goal.returns-clause-ok
returns-clause-ok c = λ before have.
    let rows = c.args.rows.now in
    let all : min (length rows) (c.loop-piece.piece * 256) ≡ length rows =
    omega (arith, c.loop-piece-test.false, c.div_ceil-piece-end.ensures) in
    subst (λ l. HaveRows (before ++ l) c.loop-piece.self)
    (ap (λ n. take n rows) all ∙ take_all (length rows) rows (omega arith)) (c.loop-piece.invariant before have)
