-- A text tells the numbers that it begins with.
use Rattle.std.proofs.Common.{◌≡◌, ◌∙◌, sym, ap, refl, ℕ, ◌+◌, ◌%◌, ◌<◌, ◌^◌, true, ◌&&◌, List, [], ◌∷◌, ◌++◌, length}
use Rattle.std.proofs.Common.{get_or, append_assoc, arith}
use Rattle.std.specs.Prelude.{nat_le, nat_lt}
use Rattle.std.specs.Char.{is_ascii_digit}
use Rattle.std.specs.Fmt.{decimal}
use Rattle.std.specs.List.{AllByRecursion, flat_map, list_all}
use Rattle.std.proofs.lemmas.Bool.{and_from, and_parts, leb-true}
use Rattle.std.proofs.lemmas.Bool.Decides.{nat_tests}
use Rattle.std.proofs.lemmas.Fmt.{decimal_by_steps, decimal_injective}
use Rattle.std.proofs.lemmas.List.Folds.{list_all-append}
use Rattle.partial_reports.specs.Head.{after_comma, ascend_between, numbers_text}
use Rattle.partial_reports.proofs.Cuts.{EndsAt, cut_by}

digit : (d : ℕ) → d < 10 → is_ascii_digit (48 + d) ≡ true
digit d h = grind (arith, nat_tests)

one_digit : (d : ℕ) → d < 10 → list_all is_ascii_digit ((48 + d) ∷ []) ≡ true
one_digit d h = and_from (is_ascii_digit (48 + d)) true (digit d h) refl

last_digit : (n : ℕ) → n % 10 < 10
last_digit n = omega arith

-- a number in decimal has digits only
pub digits : (n : ℕ) → n < 2 ^ 64 → list_all is_ascii_digit (decimal n) ≡ true
digits =
    decimal_by_steps (λ n text. list_all is_ascii_digit text ≡ true) one_digit
    (λ n text h all. list_all-append is_ascii_digit text ((48 + n % 10) ∷ [])
    ∙ and_from (list_all is_ascii_digit text) _ all (one_digit (n % 10) (last_digit n)))

-- a number, and what comes after it
pub number_same : (n m : ℕ) (r s : List ℕ) → n < 2 ^ 64 → m < 2 ^ 64 → EndsAt is_ascii_digit r → EndsAt is_ascii_digit s
    → decimal n ++ r ≡ decimal m ++ s → (n ≡ m) × (r ≡ s)
number_same n m r s p q u v e =
    let halves = cut_by is_ascii_digit (decimal n) (decimal m) r s (digits n p) (digits m q) u v e in
    (decimal_injective n m p q halves.0, halves.1)

-- each number of a list has 64 bits
abbrev pub AreSmall : List ℕ → Type 0
AreSmall numbers = AllByRecursion (λ number. number < 2 ^ 64) numbers

-- numbers after commas, and a slash (47)
abbrev commas : List ℕ → List ℕ → List ℕ
commas numbers r = flat_map after_comma numbers ++ 47 ∷ r

commas_end : (numbers r : List ℕ) → EndsAt is_ascii_digit (commas numbers r)
commas_end [] r = refl
commas_end (number ∷ numbers) r = refl

commas_same : (ns ms r s : List ℕ) → AreSmall ns → AreSmall ms → commas ns r ≡ commas ms s → (ns ≡ ms) × (r ≡ s)
commas_same [] [] r s p q e = let rest : r ≡ s = cc in (refl, rest)
commas_same [] (m ∷ ms) r s p q e = absurd (omega (arith, ap (λ (l : List ℕ). get_or l 0 0) e))
commas_same (n ∷ ns) [] r s p q e = absurd (omega (arith, ap (λ (l : List ℕ). get_or l 0 0) e))
commas_same (n ∷ ns) (m ∷ ms) r s p q e =
    let inner : (decimal n ++ flat_map after_comma ns) ++ 47 ∷ r ≡ (decimal m ++ flat_map after_comma ms) ++ 47 ∷ s =
    cc in
    let halves = number_same n m (commas ns r) (commas ms s) p.0 q.0 (commas_end ns r) (commas_end ms s)
    (sym (append_assoc (decimal n) (flat_map after_comma ns) (47 ∷ r)) ∙ inner
    ∙ append_assoc (decimal m) (flat_map after_comma ms) (47 ∷ s)) in
    let rest = commas_same ns ms r s p.1 q.1 halves.1 in
    ((λ i. halves.0 i ∷ rest.0 i), rest.1)

-- numbers with commas between, and what comes after a slash
pub numbers_same : (ns ms r s : List ℕ) → 0 < length ns → 0 < length ms → AreSmall ns → AreSmall ms
    → numbers_text ns ++ 47 ∷ r ≡ numbers_text ms ++ 47 ∷ s → (ns ≡ ms) × (r ≡ s)
numbers_same [] ms r s some any p q e = absurd (omega (arith, some))
numbers_same (n ∷ ns) [] r s some any p q e = absurd (omega (arith, any))
numbers_same (n ∷ ns) (m ∷ ms) r s some any p q e =
    let halves = number_same n m (commas ns r) (commas ms s) p.0 q.0 (commas_end ns r) (commas_end ms s)
    (sym (append_assoc (decimal n) (flat_map after_comma ns) (47 ∷ r)) ∙ e
    ∙ append_assoc (decimal m) (flat_map after_comma ms) (47 ∷ s)) in
    let rest = commas_same ns ms r s p.1 q.1 halves.1 in
    ((λ i. halves.0 i ∷ rest.0 i), rest.1)

below : (n high : ℕ) → nat_le n high ≡ true → high < 2 ^ 64 → n < 2 ^ 64
below n high e h = omega (arith, leb-true n high e)

-- numbers that ascend up to a small number are small
pub ascending_small : (low high : ℕ) (numbers : List ℕ) → high < 2 ^ 64 → ascend_between low high numbers ≡ true
    → AreSmall numbers
ascending_small low high [] h e = tt
ascending_small low high (n ∷ ns) h e =
    let parts = and_parts (nat_lt low n) (nat_le n high && ascend_between n high ns) e in
    let more = and_parts (nat_le n high) (ascend_between n high ns) parts.1 in
    (below n high more.0 h, ascending_small n high ns h more.1)
