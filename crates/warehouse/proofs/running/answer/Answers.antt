use Rattle.std.proofs.Common.{Err, ap, refl}
use Rattle.warehouse.proofs.RunningLemmas.{query_done, query_refused}
use Rattle.warehouse.proofs.running.answer.Goals as goal

pub returns-in-Ok-clause-ran : goal.returns-in-Ok-clause-ran
returns-in-Ok-clause-ran g c w slots at k =
    query_done g.D.Sectors w slots c.args.session.now c.query.new.self c.args.as_of c.args.query.now c.in-Ok.found
    (c.in-Ok.ensures.answer w at k) (c.in-Ok.ensures.reads.reads (λ is. absurd (cc)))
    (c.in-Ok.ensures.reads.stays (λ is. absurd (cc)) w at) (c.query.ensures.reads.leaves w at)

pub returns-in-Err-clause-ran : goal.returns-in-Err-clause-ran
returns-in-Err-clause-ran g c w slots at k =
    query_refused g.D.Sectors w slots c.args.session.now c.query.new.self c.args.as_of c.args.query.now c.in-Err.fault
    (λ e. (c.in-Err.ensures.reads.calls.device (ap (λ f. Err f) e)).failed)
    (λ no. (
      (c.in-Err.ensures.refused.causes c.in-Err.fault refl no w at k, c.in-Err.ensures.reads.reads (λ is. no (cc))),
      c.in-Err.ensures.reads.stays (λ is. no (cc)) w at,
    )) (c.query.ensures.reads.leaves w at)
