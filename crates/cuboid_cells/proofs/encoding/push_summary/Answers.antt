use Rattle.std.proofs.Common.{◌∙◌, rules, FitsSigned, w64}
use Rattle.std.proofs.lemmas.Result.{on_ok_weaker}
use Rattle.cuboid_cells.proofs.After.{summary_put, three_put}
use Rattle.cuboid_cells.proofs.encoding.push_summary.Goals as goal

pub returns-clause-ok : goal.returns-clause-ok
returns-clause-ok c =
    let sum_fits : FitsSigned w64 c.args.summary.sum = search rules in
    let least_fits : FitsSigned w64 c.args.summary.least = search rules in
    let greatest_fits : FitsSigned w64 c.args.summary.greatest = search rules in
    on_ok_weaker c.push_i64-3.result
    (λ put. three_put _ _ _ _ _ _ _ c.in_ok-push_i64.ensures.ok c.in_ok-push_i64-2.ensures.ok put
    ∙ summary_put c.args.out.now.items c.args.summary sum_fits least_fits greatest_fits)
    c.push_i64-3.ensures.ok
