use Rattle.std.proofs.Common.{length, rules, arith}
use Rattle.std.proofs.lemmas.Grind.{common_steps}
use Rattle.std.proofs.lemmas.Iterator.Adapters.{YieldsList-from_vec}
use Rattle.std.proofs.lemmas.Iterator.Consumers.{YieldsList-turn}
use Rattle.std.proofs.lemmas.Result.{err_from_is_err_and}
use Rattle.partial_reports.proofs.FinishingLemmas.{refused_at}
use Rattle.partial_reports.proofs.finishing.finished_lines.Goals as goal

pub returns-in_err-finished_line-clause-refused : goal.returns-in_err-finished_line-clause-refused
returns-in_err-finished_line-clause-refused c =
    let gives = c.into_iter-line-iterator.ensures.into_iter_gives in
    let items = c.args.lines.items in
    let turn = YieldsList-turn
    (YieldsList-from_vec {s = c.into_iter-line-iterator.result} items gives.0
    (first_of (omega (arith, gives.1), cc, search rules, grind (arith, common_steps)))) c.loop-line.yielded
    c.loop-line.line-iterator c.loop-line.yielded_by c.next.result c.next.new.self c.in-Some.line c.in-Some.is
    c.next.ensures.steps in
    let p = err_from_is_err_and c.from_residual.result c.from_residual.ensures.1 in
    rw (p.1, p.2)
    (refused_at c.args.aggs.now items (length c.loop-line.yielded) c.in-Some.line _ turn.0 turn.1
    c.in_err-finished_line.ensures.refused)
