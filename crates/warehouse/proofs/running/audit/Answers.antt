use Rattle.std.proofs.Common.{Err, ap}
use Rattle.warehouse.proofs.Cuboids.{laid_at}
use Rattle.warehouse.proofs.RunningLemmas.{audit_done, audit_refused}
use Rattle.warehouse.proofs.running.audit.Goals as goal

pub returns-in-Ok-clause-ran : goal.returns-in-Ok-clause-ran
returns-in-Ok-clause-ran g c w slots at k =
    audit_done g.D.Sectors w slots c.args.session.now c.audit.new.self c.in-Ok.yes (c.in-Ok.ensures.yes w at k)
    (c.in-Ok.ensures.reads.reads (λ is. absurd (cc))) (c.in-Ok.ensures.reads.stays (λ is. absurd (cc)) w at)
    (c.audit.ensures.reads.leaves w at)

pub returns-in-Err-clause-ran : goal.returns-in-Err-clause-ran
returns-in-Err-clause-ran g c w slots at k =
    audit_refused g.D.Sectors w slots c.args.session.now c.audit.new.self c.in-Err.fault
    (λ e. (c.in-Err.ensures.reads.calls.device (ap (λ f. Err f) e)).failed)
    (λ no. (
      (
        c.in-Err.ensures.refused no w (laid_at g.D.Sectors w c.args.session.now at) k,
        c.in-Err.ensures.reads.reads (λ is. no (cc)),
      ),
      c.in-Err.ensures.reads.stays (λ is. no (cc)) w at,
    ))
    (c.audit.ensures.reads.leaves w at)
