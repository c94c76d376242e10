-- The first place of greatest gain, as a loop over the places finds it.
use Rattle.std.proofs.Common.{◌≡◌, refl, ap, sym, ℕ, ◌+◌, ◌<◌, ◌≤◌, List, length, get_or, arith, Option, None, Some}
use Rattle.std.proofs.Common.{⊎_elim}
use Rattle.std.proofs.lemmas.Bool.{cases_lt}
use Rattle.std.proofs.lemmas.List.{get_or_read}
use Rattle.view_choice.specs.Costs.{IsFirstGreatest}

-- where the best of the first n items is
abbrev pub IsBestAt : {X : Type 0} → (X → ℕ) → List X → ℕ → ℕ → Option ℕ → Type 0
IsBestAt gain items n most None = most ≡ 0
IsBestAt {X} gain items n most (Some place) = (place < n) × (0 < most)
    × ((default : X) → gain (get_or items place default) ≡ most)
    × ((k : ℕ) (default : X) → k < place → gain (get_or items k default) < most)

-- none of the first n items gains more
pub record IsBestSoFar {X : Type 0} (gain : X → ℕ) (items : List X) (n : ℕ) (best : Option ℕ) (most : ℕ) : Type 0 where
  pub bound : (k : ℕ) (default : X) → k < n → gain (get_or items k default) ≤ most
  pub place : IsBestAt gain items n most best

module _ {X : Type 0} (gain : X → ℕ) (items : List X) where
  pub best-none : IsBestSoFar gain items 0 None 0
  best-none = record { bound = λ k default lt. omega arith; place = refl }

  still_at : (n most : ℕ) (best : Option ℕ) → IsBestAt gain items n most best → IsBestAt gain items (n + 1) most best
  still_at n most None at = at
  still_at n most (Some place) at = (omega arith, at.1, at.2, at.3)

  -- the gain of the next item, at any default
  next_gain : (n : ℕ) (x : X) → n < length items → x ≡ get_or items n x → (default : X)
      → gain (get_or items n default) ≡ gain x
  next_gain n x inside read default = ap gain (sym (get_or_read items n x inside read default))

  next_bound : (n most : ℕ) (x : X) → n < length items → x ≡ get_or items n x → gain x ≤ most
      → ((k : ℕ) (default : X) → k < n → gain (get_or items k default) ≤ most)
      → (k : ℕ) (default : X) → k < n + 1 → gain (get_or items k default) ≤ most
  next_bound n most x inside read below bound k default lt = ⊎_elim (λ (before : k < n). bound k default before)
      (λ (after : n ≤ k).
      let here : k ≡ n = omega arith in
      omega (arith, below, next_gain n x inside read default, ap (λ j. gain (get_or items j default)) here))
      (cases_lt k n)

  pub best-keeps : (n : ℕ) (best : Option ℕ) (most : ℕ) (x : X) → IsBestSoFar gain items n best most → n < length items
      → x ≡ get_or items n x
      → gain x ≤ most → IsBestSoFar gain items (n + 1) best most
  best-keeps n best most x so_far inside read below = record {
    bound = next_bound n most x inside read below so_far.bound;
    place = still_at n most best so_far.place;
  }

  pub best-takes : (n : ℕ) (best : Option ℕ) (most : ℕ) (x : X) → IsBestSoFar gain items n best most → n < length items
      → x ≡ get_or items n x
      → most < gain x → IsBestSoFar gain items (n + 1) (Some n) (gain x)
  best-takes n best most x so_far inside read above = record {
    bound = next_bound n (gain x) x inside read (omega arith)
        (λ k default lt. omega (arith, above, so_far.bound k default lt));
    place = (
      omega arith,
      omega arith,
      next_gain n x inside read,
      λ k default lt. omega (arith, above, so_far.bound k default lt),
    );
  }

  pub best_of_all : (best : Option ℕ) (most : ℕ) → IsBestSoFar gain items (length items) best most
      → IsFirstGreatest gain items best
  best_of_all None most so_far = λ k default lt. omega (arith, so_far.bound k default lt, so_far.place)
  best_of_all (Some place) most so_far = record {
    inside = so_far.place.0;
    gains = λ default. omega (arith, so_far.place.1, so_far.place.2 default);
    greatest = λ k default lt. omega (arith, so_far.bound k default lt, so_far.place.2 default);
    first = λ k default lt. omega (arith, so_far.place.3 k default lt, so_far.place.2 default);
  }
