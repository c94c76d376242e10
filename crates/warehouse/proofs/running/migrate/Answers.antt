use Rattle.std.proofs.Common.{Err, ap}
use Rattle.warehouse.proofs.RunningLemmas.{migrate_done, migrate_refused}
use Rattle.warehouse.proofs.running.migrate.Goals as goal

pub returns-in-Ok-clause-ran : goal.returns-in-Ok-clause-ran
returns-in-Ok-clause-ran g c w slots at k =
    let ok = c.in-Ok.ensures.ok w at in
    migrate_done g.D.Sectors w slots c.args.session.now c.migrate.new.self (ok.1 k) (c.in-Ok.ensures.once w at) ok.0
    (c.migrate.ensures.leaves w at)

pub returns-in-Err-clause-ran : goal.returns-in-Err-clause-ran
returns-in-Err-clause-ran g c w slots at k =
    migrate_refused g.D.Sectors w slots c.args.session.now c.migrate.new.self c.in-Err.fault
    (λ e. (c.in-Err.ensures.refused.calls.device (ap (λ f. Err f) e)).failed)
    (λ no. let refused = c.in-Err.ensures.refused in
    ((c.in-Err.ensures.causes no w at k, refused.kept no), (refused.stays no w at).0))
    (c.migrate.ensures.leaves w at)
