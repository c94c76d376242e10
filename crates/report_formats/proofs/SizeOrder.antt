-- Fractions are in a total order by size.
use Rattle.std.proofs.Common.{◌≡◌, ◌∙◌, sym, ap, refl, ℕ, zero, suc, ◌*◌, ◌<◌, max, ℤ, pos, negsuc, ◌*ℤ◌, ◌<ℤ◌, neg_ℤ}
use Rattle.std.proofs.Common.{Bool, true, false, T, ltb, lt-ltb, ltb-true, subst, arith}
use Rattle.std.specs.Int.Signed.{lt_z_yes}
use Rattle.std.proofs.Math.Nat.{mul-lt-mul_of_pos_right}
use Rattle.std.specs.declared.cmp.Ordering.{Ordering}
use Rattle.std.specs.declared.cmp.Ordering.TheVariants.{Less, Equal, Greater}
use Rattle.std.specs.Ordering.{int_cmp, MatchOrdering}
use Rattle.std.specs.Cmp.{IsTotalOrder, int_cmp_total, int_cmp_is, int_ranks}
use Rattle.cube_model.specs.declared.answer.Fraction.{Fraction}
use Rattle.report_formats.specs.Sorting.{fraction_cmp}

passed : (m n : ℕ) → m < n → T (ltb m n)
passed m n below = subst T (sym (lt-ltb m n below)) tt

holding : (b : Bool) → T b → b ≡ true
holding true h = refl
holding false h = absurd h

below_from : (m n : ℕ) → T (ltb m n) → m < n
below_from m n h = ltb-true m n (holding (ltb m n) h)

-- what is negative is below what is not, and falls as its size grows
neg_below : (m n : ℕ) → 0 < m → neg_ℤ (pos m) <ℤ pos n
neg_below zero n above = absurd (omega (arith, above))
neg_below (suc m) n above = lt_z_yes {a = negsuc m} {b = pos n} tt

neg_falls : (m n : ℕ) → n < m → neg_ℤ (pos m) <ℤ neg_ℤ (pos n)
neg_falls zero n below = absurd (omega (arith, below))
neg_falls (suc m) zero below = lt_z_yes {a = negsuc m} {b = pos 0} tt
neg_falls (suc m) (suc n) below = lt_z_yes {a = negsuc m} {b = negsuc n} (passed n m (omega (arith, below)))

suc_product : (a k : ℕ) → 0 < k → 0 < suc a * k
suc_product a k above = grind arith

-- a factor above 0 keeps the order
scaled_below : (x y : ℤ) (k : ℕ) → 0 < k → x <ℤ y → (x *ℤ pos k) <ℤ (y *ℤ pos k)
scaled_below (pos a) (pos b) k above below =
    lt_z_yes {a = pos (a * k)} {b = pos (b * k)}
    (passed (a * k) (b * k) (mul-lt-mul_of_pos_right (below_from a b below.lt) above))
scaled_below (pos a) (negsuc b) k above below = absurd below.lt
scaled_below (negsuc a) (pos b) k above below = neg_below (suc a * k) (b * k) (suc_product a k above)
scaled_below (negsuc a) (negsuc b) k above below =
    let lower : b < a = below_from b a below.lt in let less : suc b < suc a = omega (arith, lower) in
    neg_falls (suc a * k) (suc b * k) (mul-lt-mul_of_pos_right less above)

scaled : (x y : ℤ) (k : ℕ) → 0 < k → int_cmp (x *ℤ pos k) (y *ℤ pos k) ≡ int_cmp x y
scaled x y k above = sym (int_cmp_is (x *ℤ pos k) (y *ℤ pos k) (int_cmp x y) (moved (int_cmp x y) (int_ranks x y)))
  where
    moved : (r : Ordering) → MatchOrdering r (x <ℤ y) (x ≡ y) (y <ℤ x)
        → MatchOrdering r ((x *ℤ pos k) <ℤ (y *ℤ pos k)) (x *ℤ pos k ≡ y *ℤ pos k) ((y *ℤ pos k) <ℤ (x *ℤ pos k))
    moved Less below = scaled_below x y k above below
    moved Equal same = ap (λ z. z *ℤ pos k) same
    moved Greater below = scaled_below y x k above below

no_product : (b : ℕ) → 0 * b ≡ 0
no_product b = omega arith

neg_product : (m b : ℕ) → neg_ℤ (pos m) *ℤ pos b ≡ neg_ℤ (pos (m * b))
neg_product zero b = ap pos (no_product b) ∙ sym (ap (λ n. neg_ℤ (pos n)) (no_product b))
neg_product (suc m) b = refl

assoc : (a b c : ℕ) → (a * b) * c ≡ a * (b * c)
assoc a b c = omega arith

comm : (a b : ℕ) → a * b ≡ b * a
comm a b = omega arith

product : (x : ℤ) (a b : ℕ) → (x *ℤ pos a) *ℤ pos b ≡ x *ℤ pos (a * b)
product (pos n) a b = ap pos (assoc n a b)
product (negsuc n) a b = neg_product (suc n * a) b ∙ ap (λ m. neg_ℤ (pos m)) (assoc (suc n) a b)

exchanged : (x : ℤ) (a b : ℕ) → (x *ℤ pos a) *ℤ pos b ≡ (x *ℤ pos b) *ℤ pos a
exchanged x a b = product x a b ∙ ap (λ n. x *ℤ pos n) (comm a b) ∙ sym (product x b a)

some : (n : ℕ) → 0 < max n 1
some n = omega arith

module _ (x y z : Fraction) where
  abbrev a : ℕ
  a = max x.denominator 1

  abbrev b : ℕ
  b = max y.denominator 1

  abbrev c : ℕ
  c = max z.denominator 1

  -- the three numerators over one denominator
  abbrev first : ℤ
  first = (x.numerator *ℤ pos b) *ℤ pos c

  abbrev second : ℤ
  second = (y.numerator *ℤ pos a) *ℤ pos c

  abbrev third : ℤ
  third = (z.numerator *ℤ pos a) *ℤ pos b

  first_second : int_cmp first second ≡ fraction_cmp x y
  first_second = scaled (x.numerator *ℤ pos b) (y.numerator *ℤ pos a) c (some z.denominator)

  second_third : int_cmp second third ≡ fraction_cmp y z
  second_third =
      (λ i. int_cmp (exchanged y.numerator a c i) (exchanged z.numerator a b i))
      ∙ scaled (y.numerator *ℤ pos c) (z.numerator *ℤ pos b) a (some x.denominator)

  first_third : int_cmp first third ≡ fraction_cmp x z
  first_third =
      ap (λ n. int_cmp n third) (exchanged x.numerator b c)
      ∙ scaled (x.numerator *ℤ pos c) (z.numerator *ℤ pos a) b (some y.denominator)

  chained : fraction_cmp x y ≡ Less → fraction_cmp y z ≡ Less → fraction_cmp x z ≡ Less
  chained p q = sym first_third ∙ int_cmp_total.trans first second third (first_second ∙ p) (second_third ∙ q)

  alike : fraction_cmp x y ≡ Equal → fraction_cmp x z ≡ fraction_cmp y z
  alike p = sym first_third ∙ int_cmp_total.congr first second third (first_second ∙ p) ∙ second_third

pub fraction_cmp_total : IsTotalOrder fraction_cmp
fraction_cmp_total = record {
  antisymm = λ x y. int_cmp_total.antisymm (x.numerator *ℤ pos (max y.denominator 1))
      (y.numerator *ℤ pos (max x.denominator 1));
  trans = chained;
  congr = alike;
}
