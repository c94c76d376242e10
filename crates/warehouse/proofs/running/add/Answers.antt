use Rattle.std.proofs.Common.{Err, ap}
use Rattle.warehouse.proofs.RunningLemmas.{add_done, add_refused}
use Rattle.warehouse.proofs.running.add.Goals as goal

pub returns-in-Ok-clause-ran : goal.returns-in-Ok-clause-ran
returns-in-Ok-clause-ran g c w slots at k =
    let ok = c.in-Ok.ensures.ok w at in
    add_done g.D.Sectors w slots c.args.session.now c.add.new.self c.args.number c.args.rows.now c.rows.result.now
    c.rows.ensures.value
    (ok.1 k) c.in-Ok.ensures.once ok.0 (c.add.ensures.leaves w at)

pub returns-in-Err-clause-ran : goal.returns-in-Err-clause-ran
returns-in-Err-clause-ran g c w slots at k =
    add_refused g.D.Sectors w slots c.args.session.now c.add.new.self c.args.number c.args.rows.now c.rows.result.now
    c.in-Err.fault c.rows.ensures.value
    (λ e. (c.in-Err.ensures.refused.calls.device (ap (λ f. Err f) e)).failed)
    (λ no. let refused = c.in-Err.ensures.refused in
    ((c.in-Err.ensures.causes no w at k, refused.kept no), (refused.stays no w at).0))
    (c.add.ensures.leaves w at)
