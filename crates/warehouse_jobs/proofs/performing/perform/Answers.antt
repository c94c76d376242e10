use Rattle.std.proofs.Common.{List, subst}
use Rattle.lattice.specs.declared.view.View.{View}
use Rattle.warehouse.specs.Choosing.{ChooseForRefuses, ChooseRefuses, IsChoice, IsChoiceFor}
use Rattle.warehouse_jobs.specs.Cuboids.{ChoosesFor}
use Rattle.warehouse_jobs.proofs.PerformingLemmas.{yes-chooses, yes-keeps, yes-loads, yes-migrates, yes-reports}
use Rattle.warehouse_jobs.proofs.PerformingLemmas.{yes-tells}
use Rattle.warehouse_jobs.proofs.performing.perform.Goals as goal

pub returns-in-Load-clause-performs : goal.returns-in-Load-clause-performs
returns-in-Load-clause-performs g c w at k =
    rw c.in-Load.is
    (yes-loads g.D.Sectors w c.args.session.now c.load_from.new.session (g.W.Write.contents c.args.out.now)
    (g.W.Write.contents c.load_from.new.out) c.in-Load.first c.in-Load.rows (g.R.Read.remaining c.args.lineorder)
    c.load_from.result c.yes.result c.yes.ensures (c.load_from.ensures.loads w at k))

pub returns-in-Report-clause-performs : goal.returns-in-Report-clause-performs
returns-in-Report-clause-performs g c w at k =
    rw c.in-Report.is
    (yes-reports g.D.Sectors w c.args.session.now c.report.new.session (g.W.Write.contents c.args.out.now)
    (g.W.Write.contents c.report.new.out) c.in-Report.as_of c.in-Report.query c.report.result c.yes-in-Report.result
    c.yes-in-Report.ensures (c.report.ensures.reports w at k))

pub returns-in-Status-clause-performs : goal.returns-in-Status-clause-performs
returns-in-Status-clause-performs g c w at k =
    rw c.in-Status.is
    (yes-tells g.D.Sectors w c.args.session.now c.args.session.now (g.W.Write.contents c.args.out.now)
    (g.W.Write.contents c.tell.new.out) c.tell.result c.yes-in-Status.result c.yes-in-Status.ensures
    (c.tell.ensures w at k))

pub returns-in-Choose-clause-performs : goal.returns-in-Choose-clause-performs
returns-in-Choose-clause-performs g c w at k =
    rw c.in-Choose.is
    (yes-chooses g.D.Sectors w c.args.session.now c.choose.new.session (g.W.Write.contents c.args.out.now)
    (g.W.Write.contents c.choose.new.out) (IsChoice w c.in-Choose.k)
    (ChooseRefuses g.D.Sectors c.args.session.now w c.in-Choose.k) c.choose.result c.yes-in-Choose.result
    c.yes-in-Choose.ensures (c.choose.ensures.chooses w at k))

pub returns-in-ChooseFor-clause-performs : goal.returns-in-ChooseFor-clause-performs
returns-in-ChooseFor-clause-performs g c w at k =
    let demanded = c.in-ChooseFor.demanded.items in
    rw c.in-ChooseFor.is
    (yes-chooses g.D.Sectors w c.args.session.now c.choose_for.new.session (g.W.Write.contents c.args.out.now)
    (g.W.Write.contents c.choose_for.new.out)
    (IsChoiceFor w demanded c.in-ChooseFor.k)
    (ChooseForRefuses g.D.Sectors c.args.session.now w demanded c.in-ChooseFor.k) c.choose_for.result
    c.yes-in-ChooseFor.result c.yes-in-ChooseFor.ensures
    (subst (λ (views : List View). ChoosesFor g.D.Sectors w views c.in-ChooseFor.k c.args.session.now
    c.choose_for.new.session (g.W.Write.contents c.args.out.now) (g.W.Write.contents c.choose_for.new.out)
    c.choose_for.result) c.as_slice.ensures.value (c.choose_for.ensures.chooses w at k)))

pub returns-in-Upkeep-clause-performs : goal.returns-in-Upkeep-clause-performs
returns-in-Upkeep-clause-performs g c w at k =
    rw c.in-Upkeep.is
    (yes-keeps g.D.Sectors w c.args.session.now c.keep_up.new.session (g.W.Write.contents c.args.out.now)
    (g.W.Write.contents c.keep_up.new.out) c.keep_up.result c.yes-in-Upkeep.result c.yes-in-Upkeep.ensures
    (c.keep_up.ensures.keeps w at k))

pub returns-in-Audit-clause-performs : goal.returns-in-Audit-clause-performs
returns-in-Audit-clause-performs g c w at k = rw c.in-Audit.is (c.audit.ensures.audits w at k)

pub returns-in-Migrate-clause-performs : goal.returns-in-Migrate-clause-performs
returns-in-Migrate-clause-performs g c w at k =
    rw c.in-Migrate.is
    (yes-migrates g.D.Sectors w c.args.session.now c.migrate.new.session (g.W.Write.contents c.args.out.now)
    (g.W.Write.contents c.migrate.new.out) c.migrate.result c.yes-in-Migrate.result c.yes-in-Migrate.ensures
    (c.migrate.ensures.migrates w at k))
