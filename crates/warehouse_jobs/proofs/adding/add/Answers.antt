use Rattle.std.proofs.Common.{◌≡◌, true, false, sym, ap, ◌∙◌, Err}
use Rattle.std.proofs.lemmas.Result.{err_from_is_err_and}
use Rattle.warehouse_jobs.proofs.Additions.{adds-refused, adds-written}
use Rattle.warehouse_jobs.proofs.adding.add.Goals as goal

pub returns-in_err-taken-clause-adds : goal.returns-in_err-taken-clause-adds
returns-in_err-taken-clause-adds g c w at k =
    adds-refused g.D.Sectors w c.args.number c.args.rows.now c.args.session.now c.take_rows.new.session
    (g.W.Write.contents c.args.out.now) _ _ (c.in_err-taken.ensures.refused w at k)
    (err_from_is_err_and _ c.from_residual.ensures.1)

pub returns-in_err-status-clause-adds : goal.returns-in_err-status-clause-adds
returns-in_err-status-clause-adds g c w at k =
    let here = (c.in_ok-taken.ensures.taken w at k).at in
    let bad : true ≡ false = sym (c.in_err-status.ensures.failed.0 (ap (λ f. Err f) c.in_err-status.ensures.only))
    ∙ here.fine in
    absurd (cc)

pub returns-clause-adds : goal.returns-clause-adds
returns-clause-adds g c w at k =
    let takes = c.in_ok-taken.ensures.taken w at k in
    adds-written g.D.Sectors w c.args.number c.args.rows.now c.args.session.now c.take_rows.new.session
    (g.W.Write.contents c.args.out.now) (g.W.Write.contents c.write_addition.new.out) c.in_ok-taken.taken
    c.in_ok-status.status.additions c.write_addition.result takes (c.in_ok-status.ensures.ok _ takes.at k).additions
    (rw c.row_total.ensures at c.write_addition.ensures)
