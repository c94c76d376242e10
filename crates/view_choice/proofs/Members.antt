-- The members of greedy lists: they are candidates, each once, and the next one is always the same.
use Rattle.std.proofs.Common.{◌≡◌, ◌≢◌, ◌∙◌, refl, ap, sym, subst, ℕ, zero, suc, ◌-◌, ◌<◌, ◌≤◌, Bool, true, false, cond}
use Rattle.std.proofs.Common.{List, [], ◌∷◌, ◌++◌, length, take, drop, get_or, arith, add-one, ⊎_elim}
use Rattle.std.specs.Prelude.{min}
use Rattle.std.specs.List.{filter, sum_by, All}
use Rattle.std.proofs.lemmas.Bool.{cases_lt}
use Rattle.std.proofs.lemmas.List.{take_more, take_all, take-take, take-append-drop}
use Rattle.std.proofs.lemmas.List.Sums.{sum_by-cons}
use Rattle.view_choice.specs.Choice.{Lattice, cost, benefit, IsCandidate, IsBest, IsGreedy}
use Rattle.view_choice.specs.Lawful.{HasOwnNumbers}
use Rattle.view_choice.proofs.BenefitLaws.{benefit-append_le}
use Rattle.view_choice.proofs.CostLaws.{cost-push}

-- a front of a list with one item more
pub take-suc : {V : Type 0} (xs : List V) (i : ℕ) (d : V) → i < length xs → take (suc i) xs ≡ take i xs ++ get_or xs i d
    ∷ []
take-suc xs i d lt = subst (λ n. take n xs ≡ take i xs ++ get_or xs i d ∷ []) (add-one i) (take_more xs i d lt)

-- the best candidate is one
IsBest-unique : {V : Type 0} (lattice : Lattice V) → HasOwnNumbers lattice → (chosen : List V) (view other : V)
    → IsBest lattice chosen view → IsBest lattice chosen other → view ≡ other
IsBest-unique lattice own chosen view other best also =
    let one : benefit lattice chosen other ≤ benefit lattice chosen view = best.greatest other also.candidate in
    let two : benefit lattice chosen view ≤ benefit lattice chosen other = also.greatest view best.candidate in
    let three : lattice.index view ≤ lattice.index other = best.least other also.candidate (omega (arith, one, two)) in
    let four : lattice.index other ≤ lattice.index view = also.least view best.candidate (omega (arith, one, two)) in
    own view other (omega (arith, three, four))

module _ {V : Type 0} (lattice : Lattice V) (own : HasOwnNumbers lattice) (k : ℕ) where
  -- two greedy lists begin alike
  same_fronts : (default : V) (chosen others : List V) → IsGreedy lattice k chosen → IsGreedy lattice k others → (i : ℕ)
      → i ≤ length chosen → i ≤ length others
      → take i chosen ≡ take i others
  same_fronts default chosen others greedy also zero within inside = refl
  same_fronts default chosen others greedy also (suc i) within inside =
      let before : take i chosen ≡ take i others =
      same_fronts default chosen others greedy also i (omega arith) (omega arith) in
      let here : IsBest lattice (take i chosen) (get_or others i default) =
      subst (λ front. IsBest lattice front (get_or others i default)) (sym before)
      (also.each i (omega arith) default) in
      let same : get_or chosen i default ≡ get_or others i default =
      IsBest-unique lattice own (take i chosen) (get_or chosen i default) (get_or others i default)
      (greedy.each i (omega arith) default) here in
      take-suc chosen i default (omega arith) ∙ ap (λ front. front ++ get_or chosen i default ∷ []) before
      ∙ ap (λ view. take i others ++ view ∷ []) same ∙ sym (take-suc others i default (omega arith))

  -- neither is longer
  no_longer : (default : V) (chosen others : List V) → IsGreedy lattice k chosen → IsGreedy lattice k others
      → length others ≤ length chosen
  no_longer default chosen others greedy also = ⊎_elim (λ longer.
      let front : take (length chosen) others ≡ chosen =
      sym (same_fronts default chosen others greedy also (length chosen) (omega arith) (omega arith))
      ∙ take_all (length chosen) chosen (omega arith) in
      let best : IsBest lattice chosen (get_or others (length chosen) default) =
      subst (λ views. IsBest lattice views (get_or others (length chosen) default)) front
      (also.each (length chosen) longer default) in
      let none : benefit lattice chosen (get_or others (length chosen) default) ≡ 0 =
      greedy.ends (omega (arith, also.at_most, longer)) (get_or others (length chosen) default) best.candidate in
      omega (arith, best.gains, none))
      (λ le. le) (cases_lt (length chosen) (length others))

  -- so they are one
  same_lists : (default : V) (chosen others : List V) → IsGreedy lattice k chosen → IsGreedy lattice k others
      → chosen ≡ others
  same_lists default chosen others greedy also =
      sym (take_all (length chosen) chosen (omega arith))
      ∙ same_fronts default chosen others greedy also (length chosen) (omega arith)
      (no_longer default others chosen also greedy)
      ∙ take_all (length chosen) others (no_longer default chosen others greedy also)

  pub IsGreedy-unique : (chosen others : List V) → IsGreedy lattice k chosen → IsGreedy lattice k others
      → chosen ≡ others
  IsGreedy-unique [] [] greedy also = refl
  IsGreedy-unique [] (view ∷ others) greedy also = same_lists view [] (view ∷ others) greedy also
  IsGreedy-unique (view ∷ chosen) others greedy also = same_lists view (view ∷ chosen) others greedy also

-- they are candidates
pub IsGreedy-candidates : {V : Type 0} (lattice : Lattice V) (k : ℕ) (chosen : List V) → IsGreedy lattice k chosen
    → All (IsCandidate lattice) chosen
IsGreedy-candidates lattice k chosen greedy i default lt = (greedy.each i lt default).candidate

-- a sum over what passes a test is nothing where each such term is
sum_by-none : {V : Type 0} (f : V → ℕ) (p : V → Bool) → ((x : V) → p x ≡ true → f x ≡ 0) → (xs : List V)
    → sum_by f (filter p xs) ≡ 0
sum_by-none f p none [] = refl
sum_by-none f p none (x ∷ xs) = (elim (p x) as (λ b. p x ≡ b → sum_by f (cond b (x ∷ filter p xs) (filter p xs)) ≡ 0) [
  | true ↦ λ e. omega (arith, sum_by-cons f x (filter p xs), none x e, sum_by-none f p none xs)
  | false ↦ λ e. sum_by-none f p none xs
]) refl

-- a view that is chosen has no benefit any more
benefit-push_same : {V : Type 0} (lattice : Lattice V) (chosen : List V) (view : V)
    → benefit lattice (chosen ++ view ∷ []) view ≡ 0
benefit-push_same lattice chosen view =
    sum_by-none (λ other. cost lattice (chosen ++ view ∷ []) other - lattice.size view) (lattice.answers view)
    (λ other answers.
    let lowered : cost lattice (chosen ++ view ∷ []) other ≡ min (cost lattice chosen other) (lattice.size view)
    = cost-push lattice chosen view other
    ∙ ap (λ b. cond b (min (cost lattice chosen other) (lattice.size view)) (cost lattice chosen other)) answers in
    omega (arith, lowered))
    lattice.demanded

-- nor has it further on
benefit-chosen : {V : Type 0} (lattice : Lattice V) (chosen : List V) (i j : ℕ) (default : V) → i < j
    → j < length chosen → benefit lattice (take j chosen) (get_or chosen i default) ≡ 0
benefit-chosen lattice chosen i j default before within =
    let parts : take j chosen ≡ (take i chosen ++ get_or chosen i default ∷ []) ++ drop (suc i) (take j chosen)
    = sym (take-append-drop (suc i) (take j chosen))
    ∙ ap (λ front. front ++ drop (suc i) (take j chosen)) (take-take (suc i) j chosen (omega arith)
    ∙ take-suc chosen i default (omega arith)) in
    let falls : benefit lattice ((take i chosen ++ get_or chosen i default ∷ []) ++ drop (suc i) (take j chosen))
    (get_or chosen i default) ≤ benefit lattice (take i chosen ++ get_or chosen i default ∷ [])
    (get_or chosen i default)
    = benefit-append_le lattice (take i chosen ++ get_or chosen i default ∷ []) (drop (suc i) (take j chosen))
    (get_or chosen i default) in
    ap (λ views. benefit lattice views (get_or chosen i default)) parts
    ∙ omega (arith, falls, benefit-push_same lattice (take i chosen) (get_or chosen i default))

-- no view is twice in a greedy list
pub IsGreedy-differ : {V : Type 0} (lattice : Lattice V) (k : ℕ) (chosen : List V) → IsGreedy lattice k chosen
    → (i j : ℕ) (default : V) → i < j → j < length chosen
    → get_or chosen i default ≢ get_or chosen j default
IsGreedy-differ lattice k chosen greedy i j default before within same =
    let gains : 0 < benefit lattice (take j chosen) (get_or chosen j default) = (greedy.each j within default).gains in
    omega (
      arith,
      gains,
      benefit-chosen lattice chosen i j default before within,
      ap (benefit lattice (take j chosen)) same,
    )
