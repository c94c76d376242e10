-- Averages as decimals. Our own.
use Rattle.std.specs.Prelude.{ℕ, zero, suc, ◌+◌, ◌*◌, ◌/◌, ◌%◌, ◌^◌, ◌==◌, nat_le, max, if◌then◌else◌, ℤ, pos, negsuc}
use Rattle.std.specs.Prelude.{nat_abs, List, [], ◌∷◌, ◌++◌, drop}
use Rattle.std.specs.Fmt.{decimal}
use Rattle.cube_model.specs.declared.answer.Fraction.{Fraction}

-- how many units of which a scale makes 1 are nearest to the size of a fraction, the greater number where two are as
-- near. (The denominator of an average is at least 1.)
abbrev pub rounded : ℕ → Fraction → ℕ
rounded scale fraction =
    let size = nat_abs fraction.numerator * scale in
    let divisor = max fraction.denominator 1 in
    size / divisor + (if nat_le divisor (2 * (size % divisor)) then 1 else 0)

-- what is in front of so many units of a number's size: none is not negative
abbrev pub sign_of : ℤ → ℕ → List ℕ
sign_of (pos _) units = []
sign_of (negsuc _) zero = []
sign_of (negsuc _) (suc _) = 45 ∷ []

-- what is between the whole part and the digits after it
abbrev pub point_of : ℕ → List ℕ
point_of digits = if digits == 0 then [] else 46 ∷ []

-- so many units of 10^-digits, without a sign: the digits after the point are those of 10^digits and the rest, after
-- the first
abbrev pub units_text : ℕ → ℕ → List ℕ
units_text digits units =
    decimal (units / 10 ^ digits) ++ (point_of digits ++ drop 1 (decimal (10 ^ digits + units % 10 ^ digits)))

-- a fraction with so many digits after the point
abbrev pub decimal_text : ℕ → Fraction → List ℕ
decimal_text digits fraction =
    let units = rounded (10 ^ digits) fraction in
    sign_of fraction.numerator units ++ units_text digits units
