-- Lists whose items differ, in order.
use Rattle.std.proofs.Common.{◌≡◌, ◌∙◌, sym, ap, refl, ℕ, zero, suc, ◌+◌, ◌<◌, ◌≤◌, false, List, [], ◌∷◌, length}
use Rattle.std.proofs.Common.{get_or, arith}
use Rattle.std.specs.List.{All, AllByRecursion, IsDistinct, range_with_len}
use Rattle.std.specs.List.Sorted.{IsPermutation, IsSortedBy}
use Rattle.std.specs.declared.cmp.Ordering.{Ordering}
use Rattle.std.specs.declared.cmp.Ordering.TheVariants.{Less, Equal, Greater}
use Rattle.std.specs.Ordering.{eq_by_cmp, is_eq, is_lt, ordering_reverse}
use Rattle.std.specs.Cmp.{IsTotalOrder, eq_by_cmp_equiv}
use Rattle.std.specs.FinMap.{IsAntisymmetric}
use Rattle.std.proofs.lemmas.List.Sorted.{All-permutation, IsPermutation-cons, IsPermutation-middle, IsPermutation-refl}
use Rattle.std.proofs.lemmas.List.Sorted.{IsPermutation-trans, list_any-IsPermutation, ranks_by, sorted_far}
use Rattle.std.proofs.lemmas.Map.Keys.{IsDistinct-IsPermutation}
use Rattle.cube_model.specs.Ascending.{ascending, by_order, insert_once, IsAscending}
use Rattle.cube_model.proofs.Ascending.{IsAscending-ascending}
use Rattle.cube_model.proofs.Ascending.{list_any-ascending}
use Rattle.cube_model.proofs.Entries.{IsAscending-unique}

pub at_each : {X : Type 0} (P : X → Type 0) (xs : List X) → AllByRecursion P xs → All P xs
at_each P [] all k d h = absurd (omega (arith, h))
at_each P (x ∷ xs) all zero d h = all.0
at_each P (x ∷ xs) all (suc k) d h = at_each P xs all.1 k d (omega (arith, h))

pub from_each : {X : Type 0} (P : X → Type 0) (xs : List X) → All P xs → AllByRecursion P xs
from_each P [] all = tt
from_each P (x ∷ xs) all = (all 0 x (omega arith), from_each P xs (λ k d h. all (suc k) d (omega (arith, h))))

module _ {K : Type 0} (R : K → K → Ordering) (o : IsTotalOrder R) where
  -- what is not above another and differs from it is below it
  lower : (r s : Ordering) → s ≡ ordering_reverse r → is_lt s ≡ false → is_eq r ≡ false → r ≡ Less
  lower Less s turned last apart = refl
  lower Equal s turned last apart = cc
  lower Greater s turned last apart = absurd (cc (ap is_lt turned, last))

  lowest : (key : K) (keys : List K) → AllByRecursion (λ other. eq_by_cmp R key other ≡ false) keys
      → ((j : ℕ) (d : K) → j < length keys → is_lt (R (get_or keys j d) key) ≡ false)
      → AllByRecursion (λ other. R key other ≡ Less) keys
  lowest key [] apart last = tt
  lowest key (other ∷ keys) apart last = (
    lower (R key other) (R other key) (o.antisymm other key) (last 0 other (omega arith)) apart.0,
    lowest key keys apart.1 (λ j d h. last (suc j) d (omega (arith, h))),
  )

  rising : (keys : List K) → IsDistinct (eq_by_cmp R) keys
      → ((i j : ℕ) (d : K) → i ≤ j → j < length keys → is_lt (R (get_or keys j d) (get_or keys i d)) ≡ false)
      → IsAscending R keys
  unfolding IsDistinct
  rising [] apart sorted = tt
  rising (key ∷ keys) apart sorted = (
    lowest key keys apart.0 (λ j d h. sorted 0 (suc j) d (omega arith) (omega (arith, h))),
    rising keys apart.1 (λ i j d le h. sorted (suc i) (suc j) d (omega (arith, le)) (omega (arith, h))),
  )

  -- a sorted list of what differs is in order
  pub IsAscending-sorted : (xs ys : List K) → IsDistinct (eq_by_cmp R) xs → IsPermutation xs ys
      → IsSortedBy (λ x y. is_lt (R x y)) ys → IsAscending R ys
  IsAscending-sorted xs ys apart moved sorted =
      rising ys (IsDistinct-IsPermutation (eq_by_cmp R) (eq_by_cmp_equiv o).symm xs ys moved apart)
      (sorted_far (λ x y. is_lt (R x y)) (ranks_by o (λ x. x)) ys sorted)

  -- so it is the one that has each in its place
  pub ascending-sorted : IsAntisymmetric R → (xs ys : List K) → IsDistinct (eq_by_cmp R) xs → IsPermutation xs ys
      → IsSortedBy (λ x y. is_lt (R x y)) ys
      → ys ≡ ascending R xs
  ascending-sorted same xs ys apart moved sorted =
      IsAscending-unique R o same ys (ascending R xs) (IsAscending-sorted xs ys apart moved sorted)
      (IsAscending-ascending R o same xs)
      (λ q. sym (list_any-IsPermutation (eq_by_cmp R q) xs ys moved) ∙ sym (list_any-ascending R o same q xs))

  exchange : (x y : K) (xs : List K) → IsPermutation (x ∷ y ∷ xs) (y ∷ x ∷ xs)
  exchange x y xs = IsPermutation-middle (x ∷ []) y xs

  inserted : (key : K) (keys : List K) → AllByRecursion (λ other. eq_by_cmp R key other ≡ false) keys
      → IsPermutation (key ∷ keys) (insert_once R key keys)
  inserted key [] apart = IsPermutation-refl (key ∷ [])
  inserted key (other ∷ keys) apart =
      elim (R key other) as
      (λ r. is_eq r ≡ false
      → IsPermutation (key ∷ other ∷ keys)
      (by_order r (key ∷ other ∷ keys) (other ∷ keys) (other ∷ insert_once R key keys))) [
        | Less ↦ λ e. IsPermutation-refl (key ∷ other ∷ keys)
        | Equal ↦ λ e. absurd cc
        | Greater ↦ λ e.
            IsPermutation-trans (key ∷ other ∷ keys) (other ∷ key ∷ keys) (other ∷ insert_once R key keys)
            (exchange key other keys)
            (IsPermutation-cons other (key ∷ keys) (insert_once R key keys) (inserted key keys apart.1))
      ] apart.0

  -- none of what differs is left out
  pub IsPermutation-ascending : (keys : List K) → IsDistinct (eq_by_cmp R) keys → IsPermutation keys (ascending R keys)
  unfolding IsDistinct
  IsPermutation-ascending [] apart = IsPermutation-refl []
  IsPermutation-ascending (key ∷ keys) apart =
      let rest : IsPermutation keys (ascending R keys) = IsPermutation-ascending keys apart.1 in
      let differ : K → Type 0 = λ other. eq_by_cmp R key other ≡ false in
      IsPermutation-trans (key ∷ keys) (key ∷ ascending R keys) (insert_once R key (ascending R keys))
      (IsPermutation-cons key keys (ascending R keys) rest)
      (inserted key (ascending R keys)
      (from_each differ (ascending R keys)
      (All-permutation differ keys (ascending R keys) rest (at_each differ keys apart.0))))

-- numbers one after the other differ where only equal ones tie
module _ (R : ℕ → ℕ → Ordering) (same : IsAntisymmetric R) where
  untied : (a b : ℕ) → a < b → (r : Ordering) → R a b ≡ r → is_eq r ≡ false
  untied a b below Less e = refl
  untied a b below Equal e = absurd (let one : a ≡ b = same a b e in omega (arith, one, below))
  untied a b below Greater e = refl

  untied_all : (a b n : ℕ) → a < b → AllByRecursion (λ other. eq_by_cmp R a other ≡ false) (range_with_len b n)
  untied_all a b zero below = tt
  untied_all a b (suc n) below = (untied a b below (R a b) refl, untied_all a (b + 1) n (omega (arith, below)))

  pub IsDistinct-range : (a n : ℕ) → IsDistinct (eq_by_cmp R) (range_with_len a n)
  unfolding IsDistinct
  IsDistinct-range a zero = tt
  IsDistinct-range a (suc n) = (untied_all a (a + 1) n (omega arith), IsDistinct-range (a + 1) n)
