use Rattle.std.proofs.lemmas.Result.{err_from_is_err_and}
use Rattle.ssb_reports.proofs.Beginnings.{Writes-on, Writes-stop}
use Rattle.ssb_reports.proofs.Rows.{joined-append}
use Rattle.ssb_reports.proofs.report.write_joined.Goals as goal

pub returns-in_err-write_fields : goal.returns-in_err-write_fields
returns-in_err-write_fields g c =
    Writes-stop _ _ _ _ _ _ _ (err_from_is_err_and _ c.from_residual.ensures.1) c.in_err-write_fields.ensures
    (joined-append c.args.separator (g.F.Fields.texts c.args.fields.now) (g.G.Fields.texts c.args.others.now))

pub returns : goal.returns
returns g c =
    Writes-on _ _ _ _ _ _ _ c.in_ok-write_fields.ensures (rw c.lead_after.ensures at c.write_fields-2.ensures)
    (joined-append c.args.separator (g.F.Fields.texts c.args.fields.now) (g.G.Fields.texts c.args.others.now))
