-- The codes of a key.
use Rattle.std.proofs.Common.{◌≡◌, ap, refl, ℕ, ◌<◌, Bool, true, false, cond, List, Option, Some, None, arith}
use Rattle.std.specs.Prelude.{IfNone}
use Rattle.cuboid_upkeep.specs.Codes.{mode_code}
use Rattle.cuboid_upkeep.proofs.Found.{other_key}
use Rattle.cuboid_upkeep.specs.Numbers.{code_digit}

-- a code that is not that of ALL is its own digit
pub own_digit : (code : ℕ) → code < 65535 → code_digit code ≡ code
own_digit code below = ap (λ (b : Bool). cond b 0 code) (other_key code 65535 (λ same. omega (arith, same, below)))

-- the fifth code where ship modes are not grouped
pub no_mode : (grouped : Bool) (modes : List (List ℕ)) (text : List ℕ) → grouped ≡ false
    → 65535 ≡ mode_code grouped modes text
no_mode true modes text none = absurd (cc none)
no_mode false modes text none = refl

pub when_none : {A : Type 0} (o : Option A) (P : Type 0) → P → IfNone o P
when_none None P p = p
when_none (Some a) P p = tt
