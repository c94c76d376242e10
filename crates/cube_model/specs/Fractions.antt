-- The average of a sum over a count, as a fraction in lowest terms. Our own: averages are exact.
use Rattle.std.specs.Prelude.{◌≡◌, ℕ, zero, suc, ◌+◌, ◌/◌, ◌%◌, ◌≤◌, ◌==◌, ℤ, pos, negsuc, ◌*ℤ◌, nat_abs, cond}
use Rattle.std.specs.Int.{IsGcd}
use Rattle.cube_model.specs.declared.answer.Fraction.{Fraction}

-- p/q is the sum divided by the count: p times the count is the sum times q, q is at least 1, and no number above 1
-- divides both
pub record IsFractionOf (sum : ℤ) (count : ℕ) (fraction : Fraction) : Type 0 where
  pub equal : fraction.numerator *ℤ pos count ≡ sum *ℤ pos fraction.denominator
  pub positive : 1 ≤ fraction.denominator
  pub lowest : IsGcd (nat_abs fraction.numerator) fraction.denominator 1

-- the greatest common divisor by Euclid's steps, of which at most `steps` are made
abbrev pub gcd_in : ℕ → ℕ → ℕ → ℕ
gcd_in zero a b = a
gcd_in (suc steps) a b = cond (b == 0) a (gcd_in steps b (a % b))

-- a size with the sign of a number
abbrev pub with_sign_of : ℤ → ℕ → ℤ
with_sign_of (pos _) size = pos size
with_sign_of (negsuc _) zero = pos 0
with_sign_of (negsuc _) (suc size) = negsuc size

-- the fraction itself: both numbers by their greatest common divisor
unfoldable pub fraction_of : ℤ → ℕ → Fraction
fraction_of sum count =
    let divisor = gcd_in (count + 1) (nat_abs sum) count in
    record { numerator = with_sign_of sum (nat_abs sum / divisor); denominator = count / divisor }
