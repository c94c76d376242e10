-- What one more chosen view, or more of them, does to benefits.
use Rattle.std.proofs.Common.{◌≡◌, ◌∙◌, refl, ap, ℕ, ◌+◌, ◌-◌, ◌*◌, ◌≤◌, Bool, true, false, List, [], ◌∷◌, ◌++◌, length}
use Rattle.std.proofs.Common.{arith, subst, sym}
use Rattle.std.specs.Prelude.{min, cond}
use Rattle.std.specs.List.{filter, sum, sum_by, AllByRecursion}
use Rattle.std.proofs.lemmas.List.{append_assoc, append-nil}
use Rattle.std.proofs.lemmas.List.Sums.{sum_by-cons, sum_by-le-sum_by}
use Rattle.view_choice.specs.Choice.{Lattice, cost, benefit, total_benefit, benefits, benefits_after, IsCandidate}
use Rattle.view_choice.proofs.CostLaws.{cost-push, cost-le, cost-append_le_left, cost-append_le_right}

-- a sum over a list of what is one number and, where a test passes, another, is two sums
sum_by-parts : {V : Type 0} (f g h : V → ℕ) (p : V → Bool) → ((x : V) → h x ≡ f x + cond (p x) (g x) 0) → (xs : List V)
    → sum_by h xs ≡ sum_by f xs + sum_by g (filter p xs)
sum_by-parts f g h p parts [] = refl
sum_by-parts f g h p parts (x ∷ xs) = sum_by-cons h x xs
    ∙ (elim (p x) as
    (λ b. p x ≡ b → h x + sum_by h xs ≡ sum_by f (x ∷ xs) + sum_by g (cond b (x ∷ filter p xs) (filter p xs))) [
      | true ↦ λ e.
          let here : h x ≡ f x + g x = parts x ∙ ap (λ b. f x + cond b (g x) 0) e in
          omega (arith, sum_by-parts f g h p parts xs, sum_by-cons f x xs, sum_by-cons g x (filter p xs), here)
      | false ↦ λ e.
          let here : h x ≡ f x + 0 = parts x ∙ ap (λ b. f x + cond b (g x) 0) e in
          omega (arith, sum_by-parts f g h p parts xs, sum_by-cons f x xs, here)
    ]) refl

-- what a view takes from the fact rows is what the choice took, and what the view takes from the cost
saved-push : (rows cost size : ℕ) (answers : Bool) → cost ≤ rows
    → rows - cond answers (min cost size) cost ≡ (rows - cost) + cond answers (cost - size) 0
saved-push rows cost size true le = omega arith
saved-push rows cost size false le = omega arith

-- a view more adds its benefit to the benefit of the whole choice
pub total_benefit-push : {V : Type 0} (lattice : Lattice V) (chosen : List V) (view : V)
    → total_benefit lattice (chosen ++ view ∷ []) ≡ total_benefit lattice chosen + benefit lattice chosen view
total_benefit-push lattice chosen view =
    sum_by-parts (λ other. lattice.rows - cost lattice chosen other)
    (λ other. cost lattice chosen other - lattice.size view)
    (λ other. lattice.rows - cost lattice (chosen ++ view ∷ []) other) (lattice.answers view)
    (λ other. ap (λ n. lattice.rows - n) (cost-push lattice chosen view other)
    ∙ saved-push lattice.rows (cost lattice chosen other) (lattice.size view) (lattice.answers view other)
    (cost-le lattice chosen other))
    lattice.demanded

-- a view's benefit is no greater under a longer choice
pub benefit-append_le : {V : Type 0} (lattice : Lattice V) (chosen more : List V) (view : V)
    → benefit lattice (chosen ++ more) view ≤ benefit lattice chosen view
benefit-append_le lattice chosen more view =
    sum_by-le-sum_by (λ other. cost lattice (chosen ++ more) other - lattice.size view)
    (λ other. cost lattice chosen other - lattice.size view)
    (filter (lattice.answers view) lattice.demanded)
    (λ other. omega (arith, cost-append_le_left lattice chosen more other))

-- the benefit of a choice is no greater than that of one that it ends
pub total_benefit-append_le : {V : Type 0} (lattice : Lattice V) (chosen more : List V)
    → total_benefit lattice more ≤ total_benefit lattice (chosen ++ more)
total_benefit-append_le lattice chosen more =
    sum_by-le-sum_by (λ view. lattice.rows - cost lattice more view)
    (λ view. lattice.rows - cost lattice (chosen ++ more) view)
    lattice.demanded (λ view. omega (arith, cost-append_le_right lattice chosen more view))

-- where no candidate's benefit is above a number, each candidate more adds at most that number
total_benefit-append_at_most : {V : Type 0} (lattice : Lattice V) (chosen more : List V) (most : ℕ)
    → ((view : V) → IsCandidate lattice view → benefit lattice chosen view ≤ most)
    → AllByRecursion (IsCandidate lattice) more → total_benefit lattice (chosen ++ more) ≤ total_benefit lattice chosen
    + length more * most
total_benefit-append_at_most lattice chosen [] most below all =
    subst (λ views. total_benefit lattice views ≤ total_benefit lattice chosen + 0 * most) (sym (append-nil chosen))
    (omega arith)
total_benefit-append_at_most lattice chosen (view ∷ more) most below all =
    subst (λ views. total_benefit lattice views ≤ total_benefit lattice chosen + length (view ∷ more) * most)
    (append_assoc chosen (view ∷ []) more)
    (let rest : total_benefit lattice ((chosen ++ view ∷ []) ++ more) ≤ total_benefit lattice (chosen ++ view ∷ [])
    + length more * most
    = total_benefit-append_at_most lattice (chosen ++ view ∷ []) more most
    (λ other candidate. omega (arith, benefit-append_le lattice chosen (view ∷ []) other, below other candidate))
    all.1 in
    omega (arith, rest, total_benefit-push lattice chosen view, below view all.0))

-- so it bounds what any choice of candidates has beyond a choice
pub total_benefit_at_most : {V : Type 0} (lattice : Lattice V) (chosen others : List V) (most : ℕ)
    → ((view : V) → IsCandidate lattice view → benefit lattice chosen view ≤ most)
    → AllByRecursion (IsCandidate lattice) others → total_benefit lattice others ≤ total_benefit lattice chosen
    + length others * most
total_benefit_at_most lattice chosen others most below all =
    omega (
      arith,
      total_benefit-append_le lattice chosen others,
      total_benefit-append_at_most lattice chosen others most
          below all,
    )

-- nothing chosen has no benefit
pub total_benefit-nil : {V : Type 0} (lattice : Lattice V) → total_benefit lattice [] ≡ 0
total_benefit-nil {V} lattice = none lattice.demanded where
  none : (views : List V) → sum_by (λ view. lattice.rows - cost lattice [] view) views ≡ 0
  none [] = refl
  none (view ∷ views) =
      omega (arith, sum_by-cons (λ other. lattice.rows - cost lattice [] other) view views, none views)

sum-benefits_after : {V : Type 0} (lattice : Lattice V) (before views : List V)
    → total_benefit lattice before + sum (benefits_after lattice before views) ≡ total_benefit lattice (before ++ views)
sum-benefits_after lattice before [] = omega (arith, ap (total_benefit lattice) (append-nil before))
sum-benefits_after lattice before (view ∷ views) =
    let rest : total_benefit lattice (before ++ view ∷ []) + sum (benefits_after lattice (before ++ view ∷ []) views)
    ≡ total_benefit lattice ((before ++ view ∷ []) ++ views)
    = sum-benefits_after lattice (before ++ view ∷ []) views in
    omega (
      arith,
      rest,
      total_benefit-push lattice before view,
      ap (total_benefit lattice) (append_assoc before (view ∷ []) views),
      sum_by-cons (λ x. x) (benefit lattice before view) (benefits_after lattice (before ++ view ∷ []) views),
    )

-- the benefits of the members add up to the benefit of the whole choice
pub sum-benefits : {V : Type 0} (lattice : Lattice V) (chosen : List V)
    → sum (benefits lattice chosen) ≡ total_benefit lattice chosen
sum-benefits lattice chosen = omega (arith, sum-benefits_after lattice [] chosen, total_benefit-nil lattice)
