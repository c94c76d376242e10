-- The greedy guarantee: each greedy step makes up at least a k-th of what is missing from the benefit of any other
-- choice.
use Rattle.std.proofs.Common.{◌≡◌, ◌∙◌, ap, sym, subst, ℕ, suc, ◌+◌, ◌-◌, ◌*◌, ◌^◌, ◌<◌, ◌≤◌, List, [], ◌∷◌, length}
use Rattle.std.proofs.Common.{take, get_or, arith, ⊎_elim, Result, Ok, Err, IfOk}
use Rattle.std.specs.List.{All}
use Rattle.std.proofs.Math.Nat.{mul-zero}
use Rattle.std.proofs.lemmas.Bool.{cases_lt}
use Rattle.std.proofs.lemmas.List.{take_all}
use Rattle.std.proofs.lemmas.List.Elements.{recursion_from_All}
use Rattle.std.proofs.lemmas.Nat.{mul-le}
use Rattle.std.specs.declared.alloc.Global.{Global}
use Rattle.std.specs.declared.vec.Vec.{Vec}
use Rattle.view_choice.specs.Choice.{Lattice, benefit, total_benefit, IsCandidate, IsGreedy}
use Rattle.view_choice.specs.Lawful.{HasGuarantee}
use Rattle.view_choice.proofs.BenefitLaws.{total_benefit-push, total_benefit_at_most}
use Rattle.view_choice.proofs.Members.{take-suc}
use Rattle.view_choice.proofs.Shrinking.{missing_after, missing_shrinks, have_at_least, have_all}

module _ {V : Type 0} (lattice : Lattice V) (k : ℕ) (chosen others : List V) (positive : 1 ≤ k)
    (greedy : IsGreedy lattice k chosen) (all : All (IsCandidate lattice) others) (few : length others ≤ k) where
  -- k times the benefit of the next member is at least what is missing
  makes_up : (default : V) (i : ℕ) → i < length chosen
      → total_benefit lattice others ≤ total_benefit lattice (take i chosen) + k * benefit lattice (take i chosen)
      (get_or chosen i default)
  makes_up default i within =
      let most : ℕ = benefit lattice (take i chosen) (get_or chosen i default) in
      let bound : total_benefit lattice others ≤ total_benefit lattice (take i chosen) + length others * most
      = total_benefit_at_most lattice (take i chosen) others most
      (λ other candidate. (greedy.each i within default).greatest other candidate)
      (recursion_from_All (IsCandidate lattice) others all) in
      omega (arith, bound, mul-le (length others) most k most few (omega arith))

  -- so each member leaves at most k - 1 of k parts of what is missing
  step : (default : V) (i : ℕ) → i < length chosen
      → k * (total_benefit lattice others - total_benefit lattice (take (suc i) chosen)) ≤ (k - 1) *
      (total_benefit lattice others - total_benefit lattice (take i chosen))
  step default i within =
      let gained : total_benefit lattice (take (suc i) chosen) ≡ total_benefit lattice (take i chosen)
      + benefit lattice (take i chosen) (get_or chosen i default)
      = ap (total_benefit lattice) (take-suc chosen i default within)
      ∙ total_benefit-push lattice (take i chosen) (get_or chosen i default) in
      subst (λ (n : ℕ). k * (total_benefit lattice others - n) ≤ (k - 1) *
      (total_benefit lattice others - total_benefit lattice (take i chosen))) (sym gained)
      (missing_after k (total_benefit lattice others) (total_benefit lattice (take i chosen))
      (benefit lattice (take i chosen) (get_or chosen i default)) positive (makes_up default i within))

  -- a full greedy list
  full : V → k ≤ length chosen
      → (k ^ k - (k - 1) ^ k) * total_benefit lattice others ≤ k ^ k * total_benefit lattice chosen
  full default long =
      let shrunk : k ^ k * (total_benefit lattice others - total_benefit lattice (take k chosen)) ≤ (k - 1) ^ k *
      total_benefit lattice others
      = missing_shrinks k (total_benefit lattice others)
      (λ i. total_benefit lattice others - total_benefit lattice (take i chosen)) (length chosen) (omega arith)
      (step default) k long in
      have_at_least (total_benefit lattice others) (total_benefit lattice chosen) (k ^ k) ((k - 1) ^ k)
      (subst (λ views. k ^ k * (total_benefit lattice others - total_benefit lattice views) ≤ (k - 1) ^ k *
      total_benefit lattice others) (take_all k chosen greedy.at_most) shrunk)

  -- a greedy list that ends early has all of it
  early : length chosen < k
      → (k ^ k - (k - 1) ^ k) * total_benefit lattice others ≤ k ^ k * total_benefit lattice chosen
  early short =
      let bound : total_benefit lattice others ≤ total_benefit lattice chosen + length others * 0
      = total_benefit_at_most lattice chosen others 0
      (λ other candidate. omega (arith, greedy.ends short other candidate))
      (recursion_from_All (IsCandidate lattice) others all) in
      have_all (total_benefit lattice others) (total_benefit lattice chosen) (k ^ k) ((k - 1) ^ k)
      (omega (arith, bound, mul-zero (length others)))

  pub early_or_full : V → (k ^ k - (k - 1) ^ k) * total_benefit lattice others ≤ k ^ k * total_benefit lattice chosen
  early_or_full default = ⊎_elim early (full default) (cases_lt (length chosen) k)

-- a greedy list for k has at least that part of the benefit of any choice of as many candidates
pub guarantee : {V : Type 0} (lattice : Lattice V) (k : ℕ) (chosen others : List V) → 1 ≤ k → IsGreedy lattice k chosen
    → All (IsCandidate lattice) others → length others ≤ k
    → (k ^ k - (k - 1) ^ k) * total_benefit lattice others ≤ k ^ k * total_benefit lattice chosen
guarantee lattice k [] others positive greedy all few = early lattice k [] others positive greedy all few positive
guarantee lattice k (view ∷ chosen) others positive greedy all few =
    early_or_full lattice k (view ∷ chosen) others positive greedy all few view

-- so where the answer is a greedy list, it has that part
pub guaranteed : {V E : Type 0} (lattice : Lattice V) (k : ℕ) (found : Result (Vec V Global) E) → 1 ≤ k
    → IfOk found (λ chosen. IsGreedy lattice k chosen.items)
    → IfOk found (λ chosen. HasGuarantee lattice k chosen.items)
guaranteed lattice k (Ok chosen) positive greedy =
    λ others all few. guarantee lattice k chosen.items others positive greedy all few
guaranteed lattice k (Err fault) positive greedy = greedy
