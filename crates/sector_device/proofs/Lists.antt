-- What is in a list with one element more.
use Rattle.std.proofs.Common.{◌≡◌, ◌⊎◌, ⊎_elim, inl, inr, List, [], ◌∷◌, Contains, sym, arith}
use Rattle.std.proofs.lemmas.List.Elements.{Contains-get_or, Contains-append_right, Contains-append_cases}
use Rattle.std.proofs.lemmas.List.Elements.{Contains-push_cases}

pub only : {X : Type 0} (x b : X) → Contains (x ∷ []) b → b ≡ x
only x b has = ⊎_elim (λ none. absurd (omega (arith, none.1))) (λ is. sym is) (Contains-push_cases [] x b has)

pub first : {X : Type 0} (x : X) (xs : List X) → Contains (x ∷ xs) x
first x xs = Contains-get_or (x ∷ xs) 0 x (omega arith)

pub later : {X : Type 0} (x : X) (xs : List X) (b : X) → Contains xs b → Contains (x ∷ xs) b
later x xs b has = Contains-append_right (x ∷ []) xs b has

pub which : {X : Type 0} (x : X) (xs : List X) (b : X) → Contains (x ∷ xs) b → (b ≡ x) ⊎ Contains xs b
which x xs b has = ⊎_elim (λ here. inl (only x b here)) (λ there. inr there) (Contains-append_cases (x ∷ []) xs b has)
