use Rattle.std.proofs.Common.{Err, List, sym, ap, subst}
use Rattle.warehouse.specs.declared.chosen.Chosen.{Chosen}
use Rattle.warehouse.specs.declared.command.Command.TheVariants as asks
use Rattle.warehouse.specs.declared.command.Reply.TheVariants as says
use Rattle.warehouse.specs.Running.{Does}
use Rattle.warehouse.proofs.RunningLemmas.{choose_done, choose_refused}
use Rattle.warehouse.proofs.running.choose.Goals as goal

pub returns-in-Ok-clause-ran : goal.returns-in-Ok-clause-ran
returns-in-Ok-clause-ran g c w slots at k =
    let ok = c.in-Ok.ensures.ok w at in
    subst (λ (chosen : List Chosen). Does g.D.Sectors c.args.session.now w slots (asks.Choose c.args.k)
    (says.Chosen chosen) c.choose.new.self) (sym c.from_vec.ensures)
    (choose_done g.D.Sectors w slots c.args.session.now c.choose.new.self c.args.k c.in-Ok.chosen.items (ok.2 k) ok.1
    ok.0 (c.choose.ensures.leaves w at))

pub returns-in-Err-clause-ran : goal.returns-in-Err-clause-ran
returns-in-Err-clause-ran g c w slots at k =
    choose_refused g.D.Sectors w slots c.args.session.now c.choose.new.self c.args.k c.in-Err.fault
    (λ e. (c.in-Err.ensures.refused.calls.device (ap (λ f. Err f) e)).failed)
    (λ no. let refused = c.in-Err.ensures.refused in
    ((c.in-Err.ensures.causes no w at k, refused.kept no), (refused.stays no w at).0))
    (c.choose.ensures.leaves w at)
