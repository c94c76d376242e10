use Rattle.std.proofs.Common.{◌<◌, length, refl, rules}
use Rattle.std.proofs.lemmas.Result.{err_from_is_err_and}
use Rattle.ssb_reports.proofs.Beginnings.{Writes-on, Writes-stop, Writes-stop_after}
use Rattle.ssb_reports.proofs.Rows.{parted-at}
use Rattle.ssb_reports.proofs.report.+write_fields.Goals as goal

pub returns-in_err-write_bytes : goal.returns-in_err-write_bytes
returns-in_err-write_bytes g t c =
    let within : c.args.place < length (g.F.Fields.texts c.args.fields.now) = search rules in
    Writes-stop _ _ _ _ _ _ _ (err_from_is_err_and _ c.from_residual.ensures.1) c.in_err-write_bytes.ensures
    (parted-at c.args.bar.now c.args.lead.now (g.F.Fields.texts c.args.fields.now) c.args.place within)

pub returns-in_err-write_field : goal.returns-in_err-write_field
returns-in_err-write_field g t c =
    let within : c.args.place < length (g.F.Fields.texts c.args.fields.now) = search rules in
    Writes-stop_after _ _ _ _ _ _ _ _ _ (err_from_is_err_and _ c.from_residual-in_err-write_field.ensures.1)
    c.in_ok-write_bytes.ensures c.in_err-write_field.ensures
    (parted-at c.args.bar.now c.args.lead.now (g.F.Fields.texts c.args.fields.now) c.args.place within)

pub returns : goal.returns
returns g t c =
    let within : c.args.place < length (g.F.Fields.texts c.args.fields.now) = search rules in
    Writes-on _ _ _ _ _ _ _ c.in_ok-write_bytes.ensures
    (Writes-on _ _ _ _ _ _ _ c.in_ok-write_field.ensures c.write_fields.ensures refl)
    (parted-at c.args.bar.now c.args.lead.now (g.F.Fields.texts c.args.fields.now) c.args.place within)
