use Rattle.std.proofs.Common.{◌≡◌, ◌+◌, ◌-◌, subst, [], drop, take, arith}
use Rattle.std.specs.Io.KnownBytes.{prepend_known}
use Rattle.batch_loader.specs.Reading.{TakesLine}
use Rattle.batch_loader.proofs.LineFronts.{IsFront-start}
use Rattle.batch_loader.proofs.WindowLemmas.{TakesLine-at}
use Rattle.batch_loader.proofs.window.line_at_front.Goals as goal

pub returns-in-Some-clause-line : goal.returns-in-Some-clause-line
returns-in-Some-clause-line c = λ left some.
    let n = rw c.rest.ensures at c.in-Some.ensures in
    let same : c.in-Some.at ≡ c.in-Some.at + 1 - 1 = omega arith in
    subst (λ count. TakesLine (prepend_known c.args.window.now left)
    (prepend_known (drop (c.in-Some.at + 1) c.args.window.now) left) (take count c.args.window.now)) same
    (TakesLine-at (prepend_known c.args.window.now left) left c.args.window.now [] c.in-Some.at n.0.high
    (λ k below. n.0.before k (omega arith) below) n.1 (IsFront-start (prepend_known c.args.window.now left)))
