-- The tally of a measure over selected rows, from its count, its sum, its least and its greatest.
use Rattle.std.proofs.Common.{◌≡◌, ◌∙◌, sym, ap, refl, ℕ, ◌+◌, ◌<◌, ◌≤◌, ◌^◌, ◌+ℤ◌, ℤ, pos, negsuc, List, [], ◌∷◌, map}
use Rattle.std.proofs.Common.{length, Option, Some, None, Result, Ok, Err, arith, FitsSigned}
use Rattle.std.specs.Prelude.{nat_abs, IfOk, OnErr}
use Rattle.std.specs.Int.{int_min, int_max, w64}
use Rattle.std.specs.List.{fold, sum_by}
use Rattle.std.proofs.lemmas.Int.{ints, int_max_is, int_min_is}
use Rattle.std.proofs.lemmas.List.{length-map}
use Rattle.std.proofs.lemmas.List.Sums.{sum_by-cons}
use Rattle.cube_model.specs.Aggregates.{greatest, least, total}
use Rattle.cube_model.specs.Measures.{measure_of}
use Rattle.cube_model.specs.declared.measure.Agg.TheVariants.{Count}
use Rattle.cube_model.specs.declared.measure.Measure.{Measure}
use Rattle.cube_model.specs.declared.rows.LineOrder.{LineOrder}
use Rattle.column_kernels.specs.Extremes.{extremes_of}
use Rattle.group_tallies.specs.Tallies.{aggregated, tally_of}
use Rattle.group_tallies.proofs.Sums.{FitsSigned-small, nat_abs-total}

-- no extremes, no number
pub tally_none : (numbers : List ℤ) → None ≡ extremes_of numbers → tally_of [] ≡ tally_of numbers
tally_none [] none = refl
tally_none (number ∷ numbers) none = absurd (cc none)

abbrev low_end : Option (ℤ × ℤ) → ℤ
low_end None = pos 0
low_end (Some ends) = ends.0

abbrev high_end : Option (ℤ × ℤ) → ℤ
high_end None = pos 0
high_end (Some ends) = ends.1

extremes_are : (numbers : List ℤ) (low high : ℤ) → Some (low, high) ≡ extremes_of numbers → (low ≡ least numbers)
    × (high ≡ greatest numbers)
extremes_are [] low high is = absurd (cc is)
extremes_are (number ∷ numbers) low high is = (ap low_end is, ap high_end is)

pub tally_some : (numbers : List ℤ) (count : ℕ) (sum low high : ℤ) → count ≡ length numbers → sum ≡ total numbers
    → Some (low, high) ≡ extremes_of numbers
    → record { count = count; sum = sum; least = low; greatest = high } ≡ tally_of numbers
tally_some numbers count sum low high count_is sum_is is =
    let ends = extremes_are numbers low high is in
    λ i. record { count = count_is i; sum = sum_is i; least = ends.0 i; greatest = ends.1 i }

-- ---- numbers whose absolute values have a small sum
abs_min : (a b : ℤ) → nat_abs (int_min a b) ≤ nat_abs a + nat_abs b
abs_min (pos a) (pos b) = omega (arith, ints, int_min_is (pos a) (pos b))
abs_min (pos a) (negsuc b) = omega (arith, ints, int_min_is (pos a) (negsuc b))
abs_min (negsuc a) (pos b) = omega (arith, ints, int_min_is (negsuc a) (pos b))
abs_min (negsuc a) (negsuc b) = omega (arith, ints, int_min_is (negsuc a) (negsuc b))

abs_max : (a b : ℤ) → nat_abs (int_max a b) ≤ nat_abs a + nat_abs b
abs_max (pos a) (pos b) = omega (arith, ints, int_max_is (pos a) (pos b))
abs_max (pos a) (negsuc b) = omega (arith, ints, int_max_is (pos a) (negsuc b))
abs_max (negsuc a) (pos b) = omega (arith, ints, int_max_is (negsuc a) (pos b))
abs_max (negsuc a) (negsuc b) = omega (arith, ints, int_max_is (negsuc a) (negsuc b))

fold_small : (f : ℤ → ℤ → ℤ) → ((a b : ℤ) → nat_abs (f a b) ≤ nat_abs a + nat_abs b)
    → (number : LineOrder → ℤ) (a : ℤ) (rows : List LineOrder)
    → nat_abs (fold f a (map number rows)) ≤ nat_abs a + sum_by (λ row. nat_abs (number row)) rows
fold_small f step number a [] = omega arith
fold_small f step number a (row ∷ rows) =
    omega (
      arith,
      fold_small f step number (f a (number row)) rows,
      step a (number row),
      sum_by-cons (λ (r : LineOrder). nat_abs (number r)) row rows,
    )

least_small : (number : LineOrder → ℤ) (rows : List LineOrder)
    → nat_abs (least (map number rows)) ≤ sum_by (λ row. nat_abs (number row)) rows
least_small number [] = omega arith
least_small number (row ∷ rows) =
    omega (
      arith,
      fold_small int_min abs_min number (number row) rows,
      sum_by-cons (λ (r : LineOrder). nat_abs (number r)) row rows,
    )

greatest_small : (number : LineOrder → ℤ) (rows : List LineOrder)
    → nat_abs (greatest (map number rows)) ≤ sum_by (λ row. nat_abs (number row)) rows
greatest_small number [] = omega arith
greatest_small number (row ∷ rows) =
    omega (
      arith,
      fold_small int_max abs_max number (number row) rows,
      sum_by-cons (λ (r : LineOrder). nat_abs (number r)) row rows,
    )

module _ (measure : Measure) (rows : List LineOrder)
    (small : sum_by (λ row. nat_abs (measure_of measure row)) rows < 2 ^ 63) where
  abbrev numbers : List ℤ
  numbers = map (measure_of measure) rows

  pub sum_fits : (sum : ℤ) → sum ≡ total numbers → FitsSigned w64 sum
  sum_fits sum is = FitsSigned-small sum (omega (arith, ap nat_abs is, nat_abs-total (measure_of measure) rows, small))

  pub least_fits : (low high : ℤ) → Some (low, high) ≡ extremes_of numbers → FitsSigned w64 low
  least_fits low high is =
      FitsSigned-small low
      (omega (arith, ap nat_abs (extremes_are numbers low high is).0, least_small (measure_of measure) rows, small))

  pub greatest_fits : (low high : ℤ) → Some (low, high) ≡ extremes_of numbers → FitsSigned w64 high
  greatest_fits low high is =
      FitsSigned-small high
      (omega (arith, ap nat_abs (extremes_are numbers low high is).1, greatest_small (measure_of measure) rows, small))

-- ---- a count is taken of zeros
noughts_sum : (rows : List LineOrder) → fold (λ so_far number. so_far +ℤ number) (pos 0) (map (λ _. pos 0) rows) ≡ pos 0
noughts_sum [] = refl
noughts_sum (row ∷ rows) = noughts_sum rows

noughts_least : (rows : List LineOrder) → fold int_min (pos 0) (map (λ _. pos 0) rows) ≡ pos 0
noughts_least [] = refl
noughts_least (row ∷ rows) = noughts_least rows

noughts_greatest : (rows : List LineOrder) → fold int_max (pos 0) (map (λ _. pos 0) rows) ≡ pos 0
noughts_greatest [] = refl
noughts_greatest (row ∷ rows) = noughts_greatest rows

pub tally_noughts : (rows : List LineOrder) (count : ℕ) → count ≡ length rows
    → record { count = count; sum = pos 0; least = pos 0; greatest = pos 0 } ≡ tally_of (map (aggregated Count) rows)
tally_noughts [] count is = λ i. record { count = is i; sum = pos 0; least = pos 0; greatest = pos 0 }
tally_noughts (row ∷ rows) count is =
    λ i. record {
      count = (is ∙ sym (length-map (row ∷ rows) (λ _. pos 0))) i;
      sum = sym (noughts_sum rows) i;
      least = sym (noughts_least rows) i;
      greatest = sym (noughts_greatest rows) i;
    }

-- ---- what is said of a result, in other words
pub ok_same : {T E : Type 0} (result : Result T E) (one other : T) → one ≡ other → IfOk result (λ found. found ≡ one)
    → IfOk result (λ found. found ≡ other)
ok_same (Ok found) one other same is = is ∙ same
ok_same (Err error) one other same is = tt

pub err_from : {T E : Type 0} (result : Result T E) (P Q : Type 0) → (P → Q) → OnErr result P → OnErr result Q
err_from (Ok found) P Q from is = tt
err_from (Err error) P Q from is = from is
