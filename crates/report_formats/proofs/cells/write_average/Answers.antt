use Rattle.std.proofs.Common.{◌++◌, codes, refl}
use Rattle.std.proofs.lemmas.Result.{err_from_is_err_and}
use Rattle.ssb_reports.proofs.Beginnings.{Writes-on, Writes-stop, Writes-stop_after}
use Rattle.ssb_reports.specs.Report.{value_text}
use Rattle.report_formats.proofs.cells.write_average.Goals as goal

pub returns-in_err-write_after : goal.returns-in_err-write_after
returns-in_err-write_after g c =
    Writes-stop _ _ _ _ (codes "{\"sum\":" ++ value_text c.args.sum)
    ((codes ",\"count\":" ++ value_text c.args.count) ++ codes "}") _
    (err_from_is_err_and _ c.from_residual.ensures.1) c.in_err-write_after.ensures refl

pub returns-in_err-write_after-2 : goal.returns-in_err-write_after-2
returns-in_err-write_after-2 g c =
    Writes-stop_after _ _ _ _ _ (codes "{\"sum\":" ++ value_text c.args.sum)
    (codes ",\"count\":" ++ value_text c.args.count) (codes "}") _
    (err_from_is_err_and _ c.from_residual-in_err-write_after-2.ensures.1) c.in_ok-write_after.ensures
    c.in_err-write_after-2.ensures refl

pub returns : goal.returns
returns g c =
    Writes-on _ _ _ _ (codes "{\"sum\":" ++ value_text c.args.sum) _ _ c.in_ok-write_after.ensures
    (Writes-on _ _ _ _ (codes ",\"count\":" ++ value_text c.args.count) (codes "}") _ c.in_ok-write_after-2.ensures
    c.write_bytes.ensures refl) refl
