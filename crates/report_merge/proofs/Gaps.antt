-- The first number that is not among some.
use Rattle.std.proofs.Common.{◌≡◌, ◌∙◌, sym, ap, refl, ℕ, zero, suc, ◌+◌, ◌<◌, ◌≤◌, Bool, true, false, List, [], ◌∷◌}
use Rattle.std.proofs.Common.{◌++◌, append_assoc, length, drop, get_or, add-one, drop-cons, arith}
use Rattle.std.specs.Prelude.{◌&&◌, nat_le, nat_lt}
use Rattle.std.specs.List.{range_with_len}
use Rattle.std.proofs.lemmas.Bool.Decides.{nat_tests}
use Rattle.partial_reports.specs.Head.{ascend_between}

pub record Both (a b : Bool) : Type 0 where
  pub first : a ≡ true
  pub second : b ≡ true

pub both : (a b : Bool) → (a && b) ≡ true → Both a b
both true true e = record { first = refl; second = refl }
both true false e = absurd (cc)
both false b e = absurd (cc)

pub joined : (a b : Bool) → a ≡ true → b ≡ true → (a && b) ≡ true
joined true true e h = refl
joined true false e h = h
joined false b e h = e

lower : (low number : ℕ) → nat_lt low number ≡ true → low < number
lower low number e = grind (arith, nat_tests)

at_most : (number high : ℕ) → nat_le number high ≡ true → number ≤ high
at_most number high e = grind (arith, nat_tests)

-- the first of numbers that ascend
pub record Next (low high number : ℕ) (rest : List ℕ) : Type 0 where
  pub above : low < number
  pub within : number ≤ high
  pub ascend : ascend_between number high rest ≡ true

pub next : (low high number : ℕ) (rest : List ℕ) → ascend_between low high (number ∷ rest) ≡ true
    → Next low high number rest
next low high number rest e =
    let one = both (nat_lt low number) (nat_le number high && ascend_between number high rest) e in
    let other = both (nat_le number high) (ascend_between number high rest) one.second in
    record { above = lower low number one.first; within = at_most number high other.first; ascend = other.second }

range_last : (a n : ℕ) → range_with_len a (suc n) ≡ range_with_len a n ++ (a + n) ∷ []
range_last a zero = let e : a ≡ a + 0 = omega arith in ap (λ k. k ∷ []) e
range_last a (suc n) =
    let e : (a + 1) + n ≡ a + suc n = omega arith in
    ap (λ rest. a ∷ rest) (range_last (a + 1) n ∙ ap (λ k. range_with_len (a + 1) n ++ k ∷ []) e)

-- one more number without a gap
pub one_more : (numbers rest : List ℕ) (low number : ℕ) → number ≡ low + 1 → numbers ≡ range_with_len 1 low ++ number
    ∷ rest
    → numbers ≡ range_with_len 1 number ++ rest
one_more numbers rest low number next is =
    let up : suc low ≡ number = omega (arith, next) in
    let last : 1 + low ≡ number = omega (arith, next) in
    is ∙ sym (append_assoc (range_with_len 1 low) (number ∷ []) rest)
    ∙ ap (λ front. front ++ rest) (ap (λ k. range_with_len 1 low ++ k ∷ []) (sym last) ∙ sym (range_last 1 low)
    ∙ ap (range_with_len 1) up)

-- what is left of numbers begins with the one at the place
pub left_from : (numbers : List ℕ) (place : ℕ) → place < length numbers → drop place numbers ≡ get_or numbers place 0
    ∷ drop (place + 1) numbers
left_from numbers place within = rw (add-one) (drop-cons numbers place 0 within)
