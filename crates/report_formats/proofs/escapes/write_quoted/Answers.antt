use Rattle.std.proofs.Common.{[], ◌∷◌, ◌++◌, codes, refl}
use Rattle.std.proofs.lemmas.Result.{err_from_is_err_and}
use Rattle.ssb_reports.proofs.Beginnings.{Writes-on, Writes-stop, Writes-stop_after}
use Rattle.report_formats.specs.Escapes.{escaped}
use Rattle.report_formats.proofs.escapes.write_quoted.Goals as goal

pub returns-in_err-write_bytes : goal.returns-in_err-write_bytes
returns-in_err-write_bytes g c =
    Writes-stop _ _ _ _
    (codes "\"") (escaped c.args.how c.args.text.now ++ 34 ∷ []) _ (err_from_is_err_and _ c.from_residual.ensures.1) c.in_err-write_bytes.ensures refl

pub returns-in_err-write_escaped : goal.returns-in_err-write_escaped
returns-in_err-write_escaped g c =
    Writes-stop_after _ _ _ _ _
    (codes "\"") (escaped c.args.how c.args.text.now) (34 ∷ []) _ (err_from_is_err_and _ c.from_residual-in_err-write_escaped.ensures.1)
    c.in_ok-write_bytes.ensures c.in_err-write_escaped.ensures refl

pub returns : goal.returns
returns g c =
    Writes-on _ _ _ _ (codes "\"") _ _ c.in_ok-write_bytes.ensures
    (Writes-on _ _ _ _ (escaped c.args.how c.args.text.now) (34 ∷ []) _ c.in_ok-write_escaped.ensures
    c.write_bytes-2.ensures refl) refl
