use Rattle.std.proofs.Common.{◌++◌, refl}
use Rattle.std.specs.List.{join_with_byte}
use Rattle.std.proofs.lemmas.Result.{err_from_is_err_and}
use Rattle.ssb_reports.proofs.Beginnings.{Writes-on, Writes-stop, Writes-stop_after}
use Rattle.report_formats.specs.Rows.{ending_of, opening_of, separator_of}
use Rattle.report_formats.proofs.formatted.write_row.Goals as goal

pub returns-in_err-write_bytes : goal.returns-in_err-write_bytes
returns-in_err-write_bytes g c =
    Writes-stop _ _ _ _ (opening_of c.args.format) _ _ (err_from_is_err_and _ c.from_residual.ensures.1)
    (rw c.opening.ensures at c.in_err-write_bytes.ensures) refl

pub returns-in_err-write_joined : goal.returns-in_err-write_joined
returns-in_err-write_joined g c =
    Writes-stop_after _ _ _ _ _ (opening_of c.args.format)
    (join_with_byte (separator_of c.args.format)
    (g.F.Fields.texts c.args.fields.now ++ g.G.Fields.texts c.args.others.now))
    (ending_of c.args.format) _ (err_from_is_err_and _ c.from_residual-in_err-write_joined.ensures.1)
    (rw c.opening.ensures at c.in_ok-write_bytes.ensures) (rw c.separator.ensures at c.in_err-write_joined.ensures) refl

pub returns : goal.returns
returns g c =
    Writes-on _ _ _ _ (opening_of c.args.format) _ _ (rw c.opening.ensures at c.in_ok-write_bytes.ensures)
    (Writes-on _ _ _ _
    (join_with_byte (separator_of c.args.format)
    (g.F.Fields.texts c.args.fields.now ++ g.G.Fields.texts c.args.others.now)) (ending_of c.args.format) _
    (rw c.separator.ensures at c.in_ok-write_joined.ensures) (rw c.ending.ensures at c.write_bytes-2.ensures) refl) refl
