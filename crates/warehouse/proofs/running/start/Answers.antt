use Rattle.std.proofs.Common.{Err, List, Option, refl, sym, ap, subst, arith}
use Rattle.planned_queries.specs.Stepping.{RunningState}
use Rattle.warehouse.specs.declared.command.Command.TheVariants.{Start}
use Rattle.warehouse.specs.declared.command.Reply.TheVariants.{Done}
use Rattle.warehouse.specs.Slots.{DoesWith}
use Rattle.warehouse.proofs.RunningLemmas.{start_beyond, start_done, start_refused}
use Rattle.warehouse.proofs.SessionLemmas.{leaves_at}
use Rattle.warehouse.proofs.running.start.Goals as goal

pub returns-then-from-ge-MOST_RUNNING-clause-ran : goal.returns-then-from-ge-MOST_RUNNING-clause-ran
returns-then-from-ge-MOST_RUNNING-clause-ran g c w started at are of k =
    let s = c.args.session.now in
    start_beyond g.D.Sectors s s w started c.args.slots.now.queries.items c.args.slot are of c.args.as_of
    c.args.query.now (leaves_at g.D.Sectors g.met.D.Sectors.only_now c.args.session.now w at)
    (omega (arith, c.from.ensures, c.if-from-ge-MOST_RUNNING.true)) (λ word. refl) at

pub returns-in-Ok-clause-ran : goal.returns-in-Ok-clause-ran
returns-in-Ok-clause-ran g c w started at are of k =
    subst (λ (l : List (Option RunningState)). DoesWith g.D.Sectors c.args.session.now w started
    (Start c.args.slot c.args.as_of c.args.query.now) Done c.start.new.self l) (sym c.put.ensures)
    (start_done g.D.Sectors c.args.session.now c.start.new.self w started c.args.slots.now.queries.items c.args.slot are
    of c.args.as_of c.args.query.now (c.start.ensures.reads.leaves w at)
    (omega (arith, c.from.ensures, c.if-from-ge-MOST_RUNNING.false))
    c.in-Ok.running (c.in-Ok.ensures.started w at k) (c.in-Ok.ensures.reads.reads (λ is. absurd cc))
    (c.in-Ok.ensures.reads.stays (λ is. absurd cc) w at))

pub returns-in-Err-clause-ran : goal.returns-in-Err-clause-ran
returns-in-Err-clause-ran g c w started at are of k =
    start_refused g.D.Sectors c.args.session.now c.start.new.self w started c.args.slots.now.queries.items c.args.slot
    are of c.args.as_of c.args.query.now (c.start.ensures.reads.leaves w at)
    (omega (arith, c.from.ensures, c.if-from-ge-MOST_RUNNING.false)) c.in-Err.fault
    (λ e. (c.in-Err.ensures.reads.calls.device (ap (λ f. Err f) e)).failed)
    (λ no. (
      (c.in-Err.ensures.refused.causes c.in-Err.fault refl no w at k, c.in-Err.ensures.reads.reads (λ is. no cc)),
      c.in-Err.ensures.reads.stays (λ is. no cc) w at,
    ))
