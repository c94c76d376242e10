-- Texts that are cut where a stretch of bytes ends.
use Rattle.std.proofs.Common.{◌≡◌, sym, refl, subst, ℕ, suc, Bool, true, false, List, [], ◌∷◌, ◌++◌, length, arith}
use Rattle.std.specs.List.{list_all}
use Rattle.std.proofs.lemmas.Bool.{and_parts, both_ways}

-- a text begins with no byte that passes a test
abbrev pub EndsAt : (ℕ → Bool) → List ℕ → Type 0
EndsAt test [] = Unit {0}
EndsAt test (byte ∷ text) = test byte ≡ false

no_front : (test : ℕ → Bool) (r : List ℕ) (b : ℕ) (t : List ℕ) → test b ≡ true → EndsAt test r → r ≡ b ∷ t → ⊥
no_front test [] b t pass ends e = cc
no_front test (c ∷ r) b t pass ends e =
    let same : c ≡ b = cc in
    both_ways (test b) (subst (λ k. test k ≡ false) same ends) pass

-- stretches of bytes that pass, and what comes after each
pub cut_by : (test : ℕ → Bool) (x y r s : List ℕ) → list_all test x ≡ true → list_all test y ≡ true → EndsAt test r
    → EndsAt test s
    → x ++ r ≡ y ++ s → (x ≡ y) × (r ≡ s)
cut_by test [] [] r s p q u v e = (refl, e)
cut_by test [] (b ∷ y) r s p q u v e =
    absurd (no_front test r b (y ++ s) (and_parts (test b) (list_all test y) q).0 u e)
cut_by test (a ∷ x) [] r s p q u v e =
    absurd (no_front test s a (x ++ r) (and_parts (test a) (list_all test x) p).0 v (sym e))
cut_by test (a ∷ x) (b ∷ y) r s p q u v e =
    let first : a ≡ b = cc in
    let after : x ++ r ≡ y ++ s = cc in
    let rest = cut_by test x y r s (and_parts (test a) (list_all test x) p).1 (and_parts (test b) (list_all test y) q).1
    u v after in
    ((λ i. first i ∷ rest.0 i), rest.1)

one_less : (n m : ℕ) → suc n ≡ suc m → n ≡ m
one_less n m e = omega arith

-- texts of one length, and what comes after each
pub cut_at : (x y r s : List ℕ) → length x ≡ length y → x ++ r ≡ y ++ s → (x ≡ y) × (r ≡ s)
cut_at [] [] r s n e = (refl, e)
cut_at [] (b ∷ y) r s n e = absurd (omega (arith, n))
cut_at (a ∷ x) [] r s n e = absurd (omega (arith, n))
cut_at (a ∷ x) (b ∷ y) r s n e =
    let first : a ≡ b = cc in
    let after : x ++ r ≡ y ++ s = cc in
    let rest = cut_at x y r s (one_less _ _ n) after in
    ((λ i. first i ∷ rest.0 i), rest.1)
