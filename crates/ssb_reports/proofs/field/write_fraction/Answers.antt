use Rattle.std.proofs.Common.{◌++◌, rules, refl, codes}
use Rattle.std.specs.Fmt.{decimal, signed_decimal}
use Rattle.std.proofs.lemmas.Result.{err_from_is_err_and}
use Rattle.ssb_reports.proofs.Beginnings.{Writes-on, Writes-stop, Writes-stop_after}
use Rattle.ssb_reports.proofs.field.write_fraction.Goals as goal

pub returns-in_err-write_number : goal.returns-in_err-write_number
returns-in_err-write_number g c =
    Writes-stop _ _ _ _ (signed_decimal c.args.fraction.numerator) _ _ (err_from_is_err_and _ c.from_residual.ensures.1)
    (search rules) refl

pub returns-in_err-write_bytes : goal.returns-in_err-write_bytes
returns-in_err-write_bytes g c =
    Writes-stop_after _ _ _ _ _ (signed_decimal c.args.fraction.numerator) (codes "/")
    (decimal c.args.fraction.denominator) _ (err_from_is_err_and _ c.from_residual-in_err-write_bytes.ensures.1)
    (search rules) c.in_err-write_bytes.ensures refl

pub returns : goal.returns
returns g c =
    Writes-on _ _ _ _ (signed_decimal c.args.fraction.numerator) (codes "/" ++ decimal c.args.fraction.denominator) _
    (search rules) (Writes-on _ _ _ _ (codes "/") _ _ c.in_ok-write_bytes.ensures c.write_number-2.ensures refl)
    refl
