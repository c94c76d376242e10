-- Numbers in a row. Our own.
use Rattle.std.proofs.Common.{◌≡◌, ℕ, zero, suc, ◌+◌, ◌-◌, ◌≤◌, List, [], ◌∷◌, ◌++◌, refl, sym, ap, ◌∙◌, arith}
use Rattle.std.proofs.Common.{append_assoc}
use Rattle.std.specs.List.{range_with_len}

-- numbers in a row, and the next one
pub range-push : (first count : ℕ) → range_with_len first (suc count) ≡ range_with_len first count ++ (first + count)
    ∷ []
range-push first zero = let same : first ≡ first + 0 = omega arith in rw (← same) refl
range-push first (suc count) =
    let next : first + 1 + count ≡ first + suc count = omega arith in
    ap (λ (rest : List ℕ). first ∷ rest)
    (range-push (first + 1) count ∙ ap (λ (last : ℕ). range_with_len (first + 1) count ++ last ∷ []) next)

-- one more of the numbers after others
pub range-more : (out more mid : List ℕ) (first at : ℕ) → first ≤ at → more ≡ mid ++ at ∷ []
    → mid ≡ out ++ range_with_len first (at - first)
    → more ≡ out ++ range_with_len first (at + 1 - first)
range-more out more mid first at from is was =
    let count : at + 1 - first ≡ suc (at - first) = omega (arith, from) in
    let last : first + (at - first) ≡ at = omega (arith, from) in
    is ∙ ap (λ (xs : List ℕ). xs ++ at ∷ []) was ∙ append_assoc out (range_with_len first (at - first)) (at ∷ [])
    ∙ ap (λ (xs : List ℕ). out ++ xs) (ap (λ (n : ℕ). range_with_len first (at - first) ++ n ∷ []) (sym last)
    ∙ sym (range-push first (at - first)) ∙ ap (range_with_len first) (sym count))
