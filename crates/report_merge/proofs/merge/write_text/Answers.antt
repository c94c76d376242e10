use Rattle.std.proofs.Common.{refl}
use Rattle.std.proofs.lemmas.Result.{err_from_is_err_and}
use Rattle.ssb_reports.proofs.Beginnings.{Writes-on, Writes-stop}
use Rattle.report_merge.proofs.merge.write_text.Goals as goal

pub returns-in_err-write_bytes : goal.returns-in_err-write_bytes
returns-in_err-write_bytes g c =
    Writes-stop _ _ _ _ c.args.head.now _ _ (err_from_is_err_and _ c.from_residual.ensures.1)
    c.in_err-write_bytes.ensures refl

pub returns : goal.returns
returns g c = Writes-on _ _ _ _ c.args.head.now _ _ c.in_ok-write_bytes.ensures c.write_report.ensures refl
