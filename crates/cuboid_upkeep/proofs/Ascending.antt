-- Numbers ascend as the keys do.
use Rattle.std.proofs.Common.{◌≡◌, ◌⊎◌, inl, inr, ◌∙◌, sym, ap, refl, ℕ, ◌+◌, ◌*◌, ◌==◌, ◌<◌, ◌≤◌, Bool, true, false}
use Rattle.std.proofs.Common.{cond, arith}
use Rattle.std.proofs.Math.Nat.{mul-le-mul_right}
use Rattle.std.proofs.lemmas.Bool.{cases_lt, cases_eq}
use Rattle.std.proofs.lemmas.Bool.Decides.{nat_tests}
use Rattle.lattice.specs.declared.level.Level.{Level}
use Rattle.lattice.specs.declared.view.View.{View}
use Rattle.cuboid_cells.specs.declared.key.Key.{Key}
use Rattle.cuboid_cells.specs.Cells.{IsCodeAt, IsKeyOf, KeyFits, key_as_number}
use Rattle.cuboid_upkeep.specs.declared.member_codes.ViewMembers.{ViewMembers}
use Rattle.cuboid_upkeep.specs.Numbers.{LiesIn, code_digit, key_place}

-- a number of two digits
pub below_top : (high top count low : ℕ) → high < top → low < count → high * count + low < top * count
below_top high top count low lt within =
    let next : (high + 1) * count ≤ top * count = mul-le-mul_right count (omega (arith, lt)) in
    omega (arith, next, within)

-- one of two pairs of numbers is before the other in both, or both are equal
abbrev pub Follow : ℕ → ℕ → ℕ → ℕ → Type 0
Follow place other number next = (place < other → number < next) × (place ≡ other → number ≡ next)

-- the digits of two codes of a level
digits_follow : (grouped : Level) (a b : ℕ) → IsCodeAt grouped a → IsCodeAt grouped b
    → Follow (code_digit a) (code_digit b) a b
digits_follow grouped a b is also = by (a == 65535) (b == 65535) refl refl
  where
    by : (p q : Bool) → (a == 65535) ≡ p → (b == 65535) ≡ q → Follow (cond p 0 a) (cond q 0 b) a b
    by true true e f =
        let one : a ≡ 65535 = grind (arith, nat_tests, e) in
        let other : b ≡ 65535 = grind (arith, nat_tests, f) in
        (λ lt. absurd (omega (arith, lt)), λ same. one ∙ sym other)
    by true false e f =
        let one : a ≡ 65535 = grind (arith, nat_tests, e) in
        let other : b ≡ 65535 = also.1 (is.0 one) in
        absurd (grind (arith, nat_tests, f, other))
    by false true e f =
        let other : b ≡ 65535 = grind (arith, nat_tests, f) in
        let one : a ≡ 65535 = is.1 (also.0 other) in
        absurd (grind (arith, nat_tests, e, one))
    by false false e f = (λ lt. lt, λ same. same)

-- one digit more
one_digit : (p q m x y : ℕ) (first next c d : ℕ) → Follow p q first next → Follow x y c d → x < m → y < m → c < 65536
    → d < 65536
    → Follow (p * m + x) (q * m + y) (first * 65536 + c) (next * 65536 + d)
one_digit p q m x y first next c d high low lt within fits also = by (cases_lt p q) (cases_eq p q)
  where
    by : (p < q) ⊎ (q ≤ p) → (p ≡ q) ⊎ (p ≡ q → ⊥)
        → Follow (p * m + x) (q * m + y) (first * 65536 + c) (next * 65536 + d)
    by (inl before) other =
        let less : first < next = high.0 before in
        let below : p * m + x < q * m = below_top p q m x before lt in
        (λ above. omega (arith, less, fits), λ same. absurd (omega (arith, same, below)))
    by (inr after) (inl same) =
        let as_many : p * m ≡ q * m = ap (λ (n : ℕ). n * m) same in
        let equal : first ≡ next = high.1 same in (
          λ above. (let less : c < d = low.0 (omega (arith, above, as_many)) in omega (arith, less, equal)),
          λ alike. (let last : c ≡ d = low.1 (omega (arith, alike, as_many)) in omega (arith, last, equal)),
        )
    by (inr after) (inr apart) =
        let below : q * m + y < p * m = below_top q p m y (omega (arith, after, apart)) within in
        (λ above. absurd (omega (arith, above, below)), λ same. absurd (omega (arith, same, below)))

-- the numbers of two keys of a view that does not group by ship mode
module _ (view : View) (members : ViewMembers) (one other : Key) (of : IsKeyOf view one) (also : IsKeyOf view other)
    (fits : KeyFits one) (fit : KeyFits other)
    (lies : LiesIn members one) (lie : LiesIn members other) (modes : one.ship_mode ≡ other.ship_mode) where
  pub keys_follow : Follow (key_place members one) (key_place members other) (key_as_number one) (key_as_number other)
  keys_follow =
      let first = digits_follow view.customer one.customer other.customer of.customer also.customer in
      let second = one_digit (code_digit one.customer) (code_digit other.customer) members.suppliers.count
      (code_digit one.supplier) (code_digit other.supplier)
      one.customer other.customer one.supplier other.supplier first
      (digits_follow view.supplier one.supplier other.supplier of.supplier also.supplier)
      lies.supplier lie.supplier fits.supplier fit.supplier in
      let third =
      one_digit _ _ members.parts.count (code_digit one.part) (code_digit other.part)
      (one.customer * 65536 + one.supplier) (other.customer * 65536 + other.supplier)
      one.part other.part second (digits_follow view.part one.part other.part of.part also.part) lies.part lie.part
      fits.part fit.part in
      let fourth =
      one_digit _ _ members.dates.count (code_digit one.date) (code_digit other.date)
      ((one.customer * 65536 + one.supplier) * 65536 + one.part)
      ((other.customer * 65536 + other.supplier) * 65536 + other.part) one.date other.date third
      (digits_follow view.date one.date other.date of.date also.date)
      lies.date lie.date fits.date fit.date in (
        λ before. (let less = fourth.0 before in omega (arith, less, modes)),
        λ same. (let equal = fourth.1 same in omega (arith, equal, modes)),
      )
