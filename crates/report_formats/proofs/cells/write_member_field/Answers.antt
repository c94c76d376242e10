use Rattle.std.proofs.Common.{refl}
use Rattle.report_formats.specs.Fields.{name_text}
use Rattle.std.proofs.lemmas.Result.{err_from_is_err_and}
use Rattle.ssb_reports.proofs.Beginnings.{Writes-on, Writes-stop}
use Rattle.report_formats.proofs.cells.write_member_field.Goals as goal

pub returns-in_err-write_name : goal.returns-in_err-write_name
returns-in_err-write_name g c =
    Writes-stop _ _ _ _ (name_text c.args.format c.args.column.now) _ _
    (err_from_is_err_and _ c.from_residual.ensures.1) c.in_err-write_name.ensures refl

pub returns : goal.returns
returns g c =
    Writes-on _ _ _ _ (name_text c.args.format c.args.column.now) _ _ c.in_ok-write_name.ensures
    c.write_member.ensures refl
