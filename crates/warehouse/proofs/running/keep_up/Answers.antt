use Rattle.std.proofs.Common.{Err, ap}
use Rattle.stored_cuboids.proofs.CallerLemmas.{kept_same}
use Rattle.warehouse.proofs.RunningLemmas.{upkeep_done, upkeep_refused}
use Rattle.warehouse.proofs.running.keep_up.Goals as goal

pub returns-in-Ok-clause-ran : goal.returns-in-Ok-clause-ran
returns-in-Ok-clause-ran g c w slots at k =
    let ok = c.in-Ok.ensures.ok w at in
    upkeep_done g.D.Sectors w slots c.args.session.now c.upkeep.new.self ok.0 ok.1 (ok.3 k) ok.2
    (c.upkeep.ensures.leaves w at)

pub returns-in-Err-clause-ran : goal.returns-in-Err-clause-ran
returns-in-Err-clause-ran g c w slots at k =
    upkeep_refused g.D.Sectors w slots c.args.session.now c.upkeep.new.self c.in-Err.fault
    (λ e. (c.in-Err.ensures.calls.device (ap (λ f. Err f) e)).failed)
    (λ no. let then_is = c.in-Err.ensures.refused no w at in (then_is.0, then_is.1, then_is.2, then_is.3 k))
    (kept_same w) (c.upkeep.ensures.leaves w at)
