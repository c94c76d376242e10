use Rattle.partial_reports.proofs.Cutting.{not_begun}
use Rattle.partial_reports.proofs.rows.after.Goals as goal

pub returns-else-eq-clause-begins : goal.returns-else-eq-clause-begins
returns-else-eq-clause-begins c =
    λ left e. not_begun c.args.text.now c.args.front.now left c.split_at.result.0.now c.eq.result
    c.split_at.ensures.front c.eq.ensures c.if-eq.false e
