use Rattle.std.proofs.Common.{◌≡◌, ◌^◌, ◌++◌, ◌∙◌, ℕ, ap, sym}
use Rattle.std.proofs.lemmas.Result.{err_from_is_err_and}
use Rattle.ssb_reports.proofs.Beginnings.{Writes-on, Writes-stop}
use Rattle.cube_model.specs.declared.answer.Fraction.{Fraction}
use Rattle.report_formats.specs.Decimals.{decimal_text, rounded, sign_of, units_text}
use Rattle.report_formats.proofs.decimals.write_decimal.Goals as goal

-- a decimal is its sign and its units
split : (digits scale units : ℕ) (fraction : Fraction) → scale ≡ 10 ^ digits → units ≡ rounded scale fraction
    → decimal_text digits fraction ≡ sign_of fraction.numerator units ++ units_text digits units
split digits scale units fraction scaled is =
    ap (λ n. sign_of fraction.numerator n ++ units_text digits n) (sym (is ∙ ap (λ n. rounded n fraction) scaled))

pub returns-in_err-write_bytes : goal.returns-in_err-write_bytes
returns-in_err-write_bytes g c =
    Writes-stop _ _ _ _ (sign_of c.args.fraction.numerator c.rounded-units.result)
    (units_text c.args.digits c.rounded-units.result) _
    (err_from_is_err_and _ c.from_residual.ensures.1) (rw c.sign_of.ensures at c.in_err-write_bytes.ensures)
    (split c.args.digits c.scale_of.result c.rounded-units.result c.args.fraction c.scale_of.ensures.value
    c.rounded-units.ensures)

pub returns : goal.returns
returns g c =
    Writes-on _ _ _ _ (sign_of c.args.fraction.numerator c.rounded-units.result)
    (units_text c.args.digits c.rounded-units.result) _
    (rw c.sign_of.ensures at c.in_ok-write_bytes.ensures) c.write_units.ensures
    (split c.args.digits c.scale_of.result c.rounded-units.result c.args.fraction c.scale_of.ensures.value
    c.rounded-units.ensures)
