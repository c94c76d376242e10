use Rattle.std.proofs.Common.{sym, subst}
use Rattle.warehouse.specs.declared.command.Command.{Command}
use Rattle.warehouse.specs.declared.command.Command.TheVariants.{Submit, Query, Status, Choose, Upkeep, Audit, Add}
use Rattle.warehouse.specs.declared.command.Command.TheVariants.{Migrate}
use Rattle.warehouse.specs.Slots.{DoesWith}
use Rattle.warehouse.proofs.RunningLemmas.{with_slots}
use Rattle.warehouse.proofs.running.perform.Goals as goal

pub returns-in-Submit-clause-ran : goal.returns-in-Submit-clause-ran
returns-in-Submit-clause-ran g c w slots at are of k =
    subst (λ (command : Command). DoesWith g.D.Sectors c.args.session.now w slots command c.submit.result
    c.submit.new.session c.args.slots.now.queries.items) (sym c.in-Submit.is)
    (with_slots g.D.Sectors c.args.session.now c.submit.new.session w slots (Submit c.in-Submit.number c.in-Submit.rows)
    c.submit.result c.args.slots.now.queries.items (λ next same. same) are of (c.submit.ensures.ran w slots at k))

pub returns-in-Query-clause-ran : goal.returns-in-Query-clause-ran
returns-in-Query-clause-ran g c w slots at are of k =
    subst (λ (command : Command). DoesWith g.D.Sectors c.args.session.now w slots command c.answer.result
    c.answer.new.session c.args.slots.now.queries.items) (sym c.in-Query.is)
    (with_slots g.D.Sectors c.args.session.now c.answer.new.session w slots (Query c.in-Query.as_of c.in-Query.query)
    c.answer.result c.args.slots.now.queries.items (λ next same. same) are of (c.answer.ensures.ran w slots at k))

pub returns-in-Status-clause-ran : goal.returns-in-Status-clause-ran
returns-in-Status-clause-ran g c w slots at are of k =
    subst (λ (command : Command). DoesWith g.D.Sectors c.args.session.now w slots command c.status.result
    c.status.new.session c.args.slots.now.queries.items) (sym c.in-Status.is)
    (with_slots g.D.Sectors c.args.session.now c.status.new.session w slots Status c.status.result
    c.args.slots.now.queries.items (λ next same. same) are of (c.status.ensures.ran w slots at k))

pub returns-in-Choose-clause-ran : goal.returns-in-Choose-clause-ran
returns-in-Choose-clause-ran g c w slots at are of k =
    subst (λ (command : Command). DoesWith g.D.Sectors c.args.session.now w slots command c.choose.result
    c.choose.new.session c.args.slots.now.queries.items) (sym c.in-Choose.is)
    (with_slots g.D.Sectors c.args.session.now c.choose.new.session w slots (Choose c.in-Choose.k) c.choose.result
    c.args.slots.now.queries.items (λ next same. same) are of (c.choose.ensures.ran w slots at k))

pub returns-in-Upkeep-clause-ran : goal.returns-in-Upkeep-clause-ran
returns-in-Upkeep-clause-ran g c w slots at are of k =
    subst (λ (command : Command). DoesWith g.D.Sectors c.args.session.now w slots command c.keep_up.result
    c.keep_up.new.session c.args.slots.now.queries.items) (sym c.in-Upkeep.is)
    (with_slots g.D.Sectors c.args.session.now c.keep_up.new.session w slots Upkeep c.keep_up.result
    c.args.slots.now.queries.items (λ next same. same) are of (c.keep_up.ensures.ran w slots at k))

pub returns-in-Audit-clause-ran : goal.returns-in-Audit-clause-ran
returns-in-Audit-clause-ran g c w slots at are of k =
    subst (λ (command : Command). DoesWith g.D.Sectors c.args.session.now w slots command c.audit.result
    c.audit.new.session c.args.slots.now.queries.items) (sym c.in-Audit.is)
    (with_slots g.D.Sectors c.args.session.now c.audit.new.session w slots Audit c.audit.result
    c.args.slots.now.queries.items (λ next same. same) are of (c.audit.ensures.ran w slots at k))

pub returns-in-Add-clause-ran : goal.returns-in-Add-clause-ran
returns-in-Add-clause-ran g c w slots at are of k =
    subst (λ (command : Command). DoesWith g.D.Sectors c.args.session.now w slots command c.add.result c.add.new.session
    c.args.slots.now.queries.items) (sym c.in-Add.is)
    (with_slots g.D.Sectors c.args.session.now c.add.new.session w slots (Add c.in-Add.number c.in-Add.rows)
    c.add.result c.args.slots.now.queries.items (λ next same. same) are of (c.add.ensures.ran w slots at k))

pub returns-in-Migrate-clause-ran : goal.returns-in-Migrate-clause-ran
returns-in-Migrate-clause-ran g c w slots at are of k =
    subst (λ (command : Command). DoesWith g.D.Sectors c.args.session.now w slots command c.migrate.result
    c.migrate.new.session c.args.slots.now.queries.items) (sym c.in-Migrate.is)
    (with_slots g.D.Sectors c.args.session.now c.migrate.new.session w slots Migrate c.migrate.result
    c.args.slots.now.queries.items (λ next same. same) are of (c.migrate.ensures.ran w slots at k))

pub returns-in-Start-clause-ran : goal.returns-in-Start-clause-ran
returns-in-Start-clause-ran g c w slots at are of k =
    subst (λ (command : Command). DoesWith g.D.Sectors c.args.session.now w slots command c.start.result
    c.start.new.session c.start.new.slots.queries.items) (sym c.in-Start.is)
    (c.start.ensures.ran w slots at are of k)

pub returns-in-Step-clause-ran : goal.returns-in-Step-clause-ran
returns-in-Step-clause-ran g c w slots at are of k =
    subst (λ (command : Command). DoesWith g.D.Sectors c.args.session.now w slots command c.step.result
    c.step.new.session c.step.new.slots.queries.items) (sym c.in-Step.is)
    (c.step.ensures.ran w slots at are of k)
