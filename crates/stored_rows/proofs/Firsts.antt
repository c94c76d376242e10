-- The first of ship modes that are put end to end.
use Rattle.std.proofs.Common.{◌≡◌, ◌∙◌, ap, sym, refl, arith, ℕ, suc, ◌+◌, ◌<◌, Bool, true, false}
use Rattle.std.proofs.Common.{nat_lt, Option, Some, None, List, [], ◌∷◌, ◌++◌, length}
use Rattle.std.specs.Prelude.{cond, not, position}
use Rattle.std.specs.List.{position_or_len}
use Rattle.std.specs.Option.{option_map}
use Rattle.std.proofs.lemmas.Bool.Decides.{nat_tests}
use Rattle.std.proofs.lemmas.List.{append-nil, append_assoc}
use Rattle.cube_model.specs.Limits.{most_members}
use Rattle.cube_model.specs.ShipModes.{crowded_place}
use Rattle.cube_model.specs.Validity.{members_of}

-- the first place, or else a later one
abbrev pub or_later : Option ℕ → Option ℕ → Option ℕ
or_later (Some k) later = Some k
or_later None later = later

-- a place after so many others
abbrev pub later_by : ℕ → Option ℕ → Option ℕ
later_by n place = option_map (λ k. n + k) place

later_by-zero : (place : Option ℕ) → later_by 0 place ≡ place
later_by-zero None = refl
later_by-zero (Some k) = let same : 0 + k ≡ k = omega arith in ap Some same

one_more : (here : Bool) (n : ℕ) (first later : Option ℕ)
    → cond here (Some 0) (option_map suc (or_later first (later_by n later)))
    ≡ or_later (cond here (Some 0) (option_map suc first)) (later_by (suc n) later)
one_more true n first later = refl
one_more false n (Some k) later = refl
one_more false n None None = refl
one_more false n None (Some k) = let same : suc (n + k) ≡ suc n + k = omega arith in ap Some same

one_further : (n len : ℕ)
    → cond (nat_lt (1 + n) (suc len)) (Some (1 + n)) None ≡ option_map suc (cond (nat_lt n len) (Some n) None)
one_further n len =
    (elim (nat_lt n len) as (λ b. nat_lt n len ≡ b
    → cond (nat_lt (1 + n) (suc len)) (Some (1 + n)) None ≡ option_map suc (cond b (Some n) None)) [
      | true ↦ λ e.
          let more : nat_lt (1 + n) (suc len) ≡ true = grind (arith, nat_tests, e) in
          let same : 1 + n ≡ suc n = omega arith in
          ap (λ (b : Bool). cond b (Some (1 + n)) None) more ∙ ap Some same
      | false ↦ λ e.
          let more : nat_lt (1 + n) (suc len) ≡ false = grind (arith, nat_tests, e) in
          ap (λ (b : Bool). cond b (Some (1 + n)) None) more
    ]) refl

position_cons : (p : List ℕ → Bool) (x : List ℕ) (xs : List (List ℕ))
    → position p (x ∷ xs) ≡ cond (p x) (Some 0) (option_map suc (position p xs))
position_cons p x xs =
    let n : ℕ = position_or_len p xs in
    elim (p x) as (λ b. cond (nat_lt (cond (not b) (1 + n) 0) (suc (length xs))) (Some (cond (not b) (1 + n) 0)) None
    ≡ cond b (Some 0) (option_map suc (position p xs))) [
      | true ↦ (let some : nat_lt 0 (suc (length xs)) ≡ true = grind (arith, nat_tests) in
          ap (λ (t : Bool). cond t (Some 0) None) some)
      | false ↦ one_further n (length xs)
    ]

-- the first of texts that pass a test
pub position_append : (p : List ℕ → Bool) (xs ys : List (List ℕ))
    → position p (xs ++ ys) ≡ or_later (position p xs) (later_by (length xs) (position p ys))
position_append p [] ys = sym (later_by-zero (position p ys))
position_append p (x ∷ xs) ys =
    position_cons p x (xs ++ ys)
    ∙ ap (λ (o : Option ℕ). cond (p x) (Some 0) (option_map suc o)) (position_append p xs ys)
    ∙ one_more (p x) (length xs) (position p xs) (position p ys)
    ∙ ap (λ (o : Option ℕ). or_later o (later_by (suc (length xs)) (position p ys))) (sym (position_cons p x xs))

-- the first with which there are too many
pub crowded_append : (earlier xs ys : List (List ℕ))
    → crowded_place earlier (xs ++ ys)
    ≡ or_later (crowded_place earlier xs) (later_by (length xs) (crowded_place (earlier ++ xs) ys))
crowded_append earlier [] ys =
    ap (λ (l : List (List ℕ)). crowded_place l ys) (sym (append-nil earlier))
    ∙ sym (later_by-zero (crowded_place (earlier ++ []) ys))
crowded_append earlier (x ∷ xs) ys =
    let many : Bool = nat_lt most_members (length (members_of (earlier ++ x ∷ []))) in
    ap (λ (o : Option ℕ). cond many (Some 0) (option_map suc o)) (crowded_append (earlier ++ x ∷ []) xs ys)
    ∙ ap (λ (l : List (List ℕ)). cond many (Some 0) (option_map suc (or_later (crowded_place (earlier ++ x ∷ []) xs)
    (later_by (length xs) (crowded_place l ys))))) (append_assoc earlier (x ∷ []) xs)
    ∙ one_more many (length xs) (crowded_place (earlier ++ x ∷ []) xs) (crowded_place (earlier ++ (x ∷ xs)) ys)

-- it is one of them
pub crowded_within : (earlier xs : List (List ℕ)) (k : ℕ) → crowded_place earlier xs ≡ Some k → k < length xs
crowded_within earlier [] k is = absurd cc
crowded_within earlier (x ∷ xs) k is =
    by (nat_lt most_members (length (members_of (earlier ++ x ∷ [])))) (crowded_place (earlier ++ x ∷ []) xs)
    (crowded_within (earlier ++ x ∷ []) xs) is
  where
    some_one : (a b : ℕ) → Some a ≡ Some b → a ≡ b
    some_one a b e = cc

    by : (many : Bool) (o : Option ℕ) → ((j : ℕ) → o ≡ Some j → j < length xs)
        → cond many (Some 0) (option_map suc o) ≡ Some k → k < suc (length xs)
    by true o within e = let zeroth : 0 ≡ k = some_one 0 k e in omega (arith, zeroth)
    by false None within e = absurd cc
    by false (Some j) within e = let next : suc j ≡ k = some_one (suc j) k e in omega (arith, next, within j refl)
