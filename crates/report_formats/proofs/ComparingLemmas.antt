-- Keys that are compared member by member.
use Rattle.std.proofs.Common.{◌≡◌, ◌∙◌, refl, ℕ, zero, suc, min, List, [], ◌∷◌, length, drop, arith}
use Rattle.std.specs.declared.cmp.Ordering.{Ordering}
use Rattle.std.specs.Ordering.{nat_cmp}
use Rattle.std.proofs.lemmas.Bool.Decides.{nat_tests}
use Rattle.std.specs.Cmp.Lexicographic.{slice_cmp}

nat_cmp_suc : (m n : ℕ) → nat_cmp m n ≡ nat_cmp (suc m) (suc n)
nat_cmp_suc m n = grind (arith, nat_tests)

module _ {X : Type 0} (R : X → X → Ordering) where
  -- at the end of the shorter one the lengths decide
  pub at_end : (xs ys : List X) (place : ℕ) → place ≡ min (length xs) (length ys)
      → slice_cmp R (drop place xs) (drop place ys) ≡ nat_cmp (length xs) (length ys)
  at_end [] [] zero e = refl
  at_end [] (y ∷ ys) zero e = grind (arith, nat_tests)
  at_end (x ∷ xs) [] zero e = grind (arith, nat_tests)
  at_end (x ∷ xs) (y ∷ ys) zero e = absurd (omega (arith, e))
  at_end [] ys (suc place) e = absurd (omega (arith, e))
  at_end (x ∷ xs) [] (suc place) e = absurd (omega (arith, e))
  at_end (x ∷ xs) (y ∷ ys) (suc place) e = at_end xs ys place (omega (arith, e)) ∙ nat_cmp_suc (length xs) (length ys)
