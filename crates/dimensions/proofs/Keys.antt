-- The place of a key.
use Rattle.std.proofs.Common.{◌≡◌, ◌≤◌, ◌+◌, refl, sym, cond, not, unwrap_or, ℕ, Bool, true, false, nat_lt, List, []}
use Rattle.std.proofs.Common.{◌∷◌, length, suc, position, Some, None, arith}
use Rattle.std.specs.List.{position_or_len}

pub position_or_len-le : {X : Type 0} (p : X → Bool) (xs : List X) → position_or_len p xs ≤ length xs
position_or_len-le p [] = omega arith
position_or_len-le p (x ∷ xs) = elim (p x) as (λ b. cond (not b) (1 + position_or_len p xs) 0 ≤ suc (length xs)) [
  | true ↦ omega arith
  | false ↦ omega (arith, position_or_len-le p xs)
]

pub place_of_some : {X : Type 0} (p : X → Bool) (xs : List X) (k : ℕ) → position p xs ≡ Some k
    → position_or_len p xs ≡ k
place_of_some p xs k some =
    elim (nat_lt (position_or_len p xs) (length xs)) as (λ b. cond b (Some (position_or_len p xs)) None ≡ Some k
    → position_or_len p xs ≡ k) [
      | true ↦ λ e. cc
      | false ↦ λ e. cc
    ] some

-- no place is the place after the last
pub position_or_len-none : {X : Type 0} (p : X → Bool) (xs : List X) → position p xs ≡ None
    → position_or_len p xs ≡ length xs
position_or_len-none p xs none = let le = position_or_len-le p xs in
    elim (nat_lt (position_or_len p xs) (length xs)) as (λ b. nat_lt (position_or_len p xs) (length xs) ≡ b
    → cond b (Some (position_or_len p xs)) None ≡ None → position_or_len p xs ≡ length xs) [
      | true ↦ λ e n. cc
      | false ↦ λ e n. grind arith
    ] refl none

-- a place, or the count where there is none
pub place_or_len : {X : Type 0} (p : X → Bool) (xs : List X)
    → unwrap_or (position p xs) (length xs) ≡ position_or_len p xs
place_or_len p xs = elim (position p xs) as (λ o. position p xs ≡ o → unwrap_or o (length xs) ≡ position_or_len p xs) [
  | None ↦ λ none. sym (position_or_len-none p xs none)
  | Some k ↦ λ some. sym (place_of_some p xs k some)
] refl
