use Rattle.std.proofs.Common.{◌≡◌, true, false, Err, refl, sym, ◌∙◌, ap}
use Rattle.warehouse.proofs.RunningLemmas.{status_done}
use Rattle.warehouse.proofs.SessionLemmas.{leaves_at}
use Rattle.warehouse.proofs.running.status.Goals as goal

pub returns-in-Ok-clause-ran : goal.returns-in-Ok-clause-ran
returns-in-Ok-clause-ran g c w slots at k =
    status_done g.D.Sectors w slots c.args.session.now c.args.session.now c.in-Ok.numbers (c.in-Ok.ensures.ok w at k)
    (λ word. refl) at (leaves_at g.D.Sectors g.met.D.Sectors.only_now c.args.session.now w at)

pub returns-in-Err-clause-ran : goal.returns-in-Err-clause-ran
returns-in-Err-clause-ran g c w slots at k =
    let bad : true ≡ false = sym (c.in-Err.ensures.failed.0 (ap (λ f. Err f) c.in-Err.ensures.only)) ∙ at.fine in
    absurd (cc)
