use Rattle.std.proofs.Common.{◌≡◌, ◌∙◌, ap, arith, rules, ◌+◌, ◌/◌, nat_abs, w64, FitsSigned, to_z, of_z, to_z-of_z}
use Rattle.cube_model.specs.Fractions.{fraction_of, gcd_in, with_sign_of}
use Rattle.group_tallies.proofs.fraction.fraction_of.Goals as goal

pub returns : goal.returns
unfolding fraction_of
returns c =
    let size = nat_abs c.args.sum in
    let count = c.args.count in
    let fits : FitsSigned w64 c.args.sum = search rules in
    let exact : to_z w64 (of_z w64 c.args.sum) ≡ c.args.sum = to_z-of_z fits in
    let size_is : c.unsigned_abs-size.result ≡ size = c.unsigned_abs-size.ensures.value ∙ ap nat_abs exact in
    let divisor : c.gcd-divisor.result ≡ gcd_in (count + 1) size count =
    c.gcd-divisor.ensures.value (count + 1) (omega arith) ∙ ap (λ n. gcd_in (count + 1) n count) size_is in
    let signed_fits : FitsSigned w64 c.signed.result = search rules in
    let numerator : to_z w64 (of_z w64 c.signed.result)
    ≡ with_sign_of c.args.sum (size / gcd_in (count + 1) size count) =
    to_z-of_z signed_fits ∙ c.signed.ensures
    ∙ ap (λ z. with_sign_of z (c.unsigned_abs-size.result / c.gcd-divisor.result)) exact
    ∙ ap (λ n. with_sign_of c.args.sum (n / c.gcd-divisor.result)) size_is
    ∙ ap (λ n. with_sign_of c.args.sum (size / n)) divisor in
    λ i. record { numerator = numerator i; denominator = count / divisor i }
