-- What `is_sorted_by` says of items whose numbers ascend from each to the next. For the proofs of other crates too.
use Rattle.std.proofs.Common.{◌≡◌, ℕ, zero, suc, ◌+◌, ◌-◌, ◌<◌, Bool, true, false, nat_lt, List, [], ◌∷◌, length}
use Rattle.std.proofs.Common.{get_or, IsTrue, ◌↔◌, refl, sym, ◌∙◌, subst, arith, add-zero}
use Rattle.std.proofs.lemmas.Bool.{lt-ltb, ltb-true}
use Rattle.std.specs.List.{AllPairs, IsAllAdjacentAnswer}

module _ {X : Type 0} (number : X → ℕ) where
  -- the number of an item is below that of one further on
  further : (items : List X) (d : X)
      → ((k : ℕ) → k + 1 < length items → number (get_or items k d) < number (get_or items (k + 1) d))
      → (i n : ℕ) → i + 1 + n < length items → number (get_or items i d) < number (get_or items (i + 1 + n) d)
  further items d next i zero within = rw (add-zero (i + 1)) (next i (omega (arith, within)))
  further items d next i (suc n) within =
      let before : number (get_or items i d) < number (get_or items (i + 1 + n) d) =
      further items d next i n (omega (arith, within)) in
      let last : number (get_or items (i + 1 + n) d) < number (get_or items (i + 1 + n + 1) d) =
      next (i + 1 + n) (omega (arith, within)) in
      let place : i + 1 + suc n ≡ i + 1 + n + 1 = omega arith in
      rw place (omega (arith, before, last))

  -- each item is below the next exactly where each is below all after it
  pub ascending : (items : List X) (r : Bool)
      → IsAllAdjacentAnswer (λ one other answer. answer ≡ nat_lt (number one) (number other)) items r
      → IsTrue r ↔ AllPairs (λ one other. number one < number other) items
  ascending items true answer = (
    λ yes i j d before within.
        let place : i + 1 + (j - (i + 1)) ≡ j = omega (arith, before) in
        let apart = further items d (λ k next. ltb-true _ _ (sym (answer k d next))) i (j - (i + 1))
        (omega (arith, before, within)) in
        subst (λ (n : ℕ). number (get_or items i d) < number (get_or items n d)) place apart,
    λ above. refl,
  )
  ascending [] false (k, within, turned) = absurd (omega (arith, within))
  ascending (first ∷ others) false (k, within, turned) = (
    λ no. cc,
    λ above.
        let items : List X = first ∷ others in
        let less : number (get_or items k first) < number (get_or items (k + 1) first) =
        above k (k + 1) first (omega arith) within in
        turned first ∙ lt-ltb (number (get_or items k first)) (number (get_or items (k + 1) first)) less,
  )
