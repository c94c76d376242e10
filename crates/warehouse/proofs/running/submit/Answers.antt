use Rattle.std.proofs.Common.{Err, ap}
use Rattle.warehouse.proofs.RunningLemmas.{submit_done, submit_refused}
use Rattle.warehouse.proofs.running.submit.Goals as goal

pub returns-in-Ok-clause-ran : goal.returns-in-Ok-clause-ran
returns-in-Ok-clause-ran g c w slots at k =
    let ok = c.in-Ok.ensures.ok w at in
    submit_done g.D.Sectors w slots c.args.session.now c.submit.new.self c.args.number c.args.rows.now
    c.as_slice.result.now c.as_slice.ensures
    (ok.1 k) c.in-Ok.ensures.once ok.0 (c.submit.ensures.leaves w at)

pub returns-in-Err-clause-ran : goal.returns-in-Err-clause-ran
returns-in-Err-clause-ran g c w slots at k =
    submit_refused g.D.Sectors w slots c.args.session.now c.submit.new.self c.args.number c.args.rows.now
    c.as_slice.result.now c.in-Err.fault c.as_slice.ensures
    (λ e. (c.in-Err.ensures.refused.calls.device (ap (λ f. Err f) e)).failed)
    (λ no. let refused = c.in-Err.ensures.refused in
    ((c.in-Err.ensures.causes no w at k, refused.kept no), (refused.stays no w at).0))
    (c.submit.ensures.leaves w at)
